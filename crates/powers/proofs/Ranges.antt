-- "With these sizes every sum of products below fits a signed 64-bit number": an unknown's interval has ends of at most
-- 4.0, its power e has ends of at most 4.0 to the power of e.
use mathlib.Core.Path.{◌≡◌, refl, ap, ◌∙◌}
use mathlib.Core.Bool.{Bool, true, false, cond}
use Prim.Native.Nat.{ℕ, zero, suc, ◌+◌, ◌*◌, ◌<◌, ◌≤◌}
use native.Mathlib.Nat.{le_refl, not-suc-le-zero, mul_left_comm}
use native.Mathlib.Numerals.{unary_clauses}
use native.Mathlib.Omega.{arith}
use lib.Dec.{lit≤}
use lib.IntN.{pos, ◌*ℤ◌}
use lib.Signed.{◌≤ℤ◌}
use borrow.Author.Tests.{le-ltb, ne_eqb}
use Rattle.sizes.specs.Sizes.{mark, end_max}
use Rattle.sizes.specs.Bounds.{up_max}
use Rattle.integers.specs.Ranges.{Within}
use Rattle.integers.specs.Least.{min_ℤ, max_ℤ}
use Rattle.integers.proofs.Parts.{zorder}
use Rattle.integers.proofs.Order.{square-nonneg}
use Rattle.integers.proofs.Ranges.{within-mul}
use Rattle.integers.proofs.Least.{min-l, min-both, max-l, max-both}
use Rattle.intervals.specs.declared.Interval.{Interval}
use Rattle.intervals.proofs.Least.{choices}
use Rattle.intervals.specs.Ranges.{InI, FitsMul, FitsTimes}
use Rattle.intervals.proofs.Ranges.{in-more, in-out, in-mul, fits-mul, fits-times, up-within}
use Rattle.powers.specs.Powers.{holds_zero, square_range, square_i, cube_i, power_i}
use Rattle.powers.specs.Ranges.{grow}

-- ---- bounds that grow
pub grow-add : (e d B : ℕ) → grow e (grow d B) ≡ grow (d + e) B
unfolding grow
grow-add zero d B = simp unary_clauses refl
grow-add (suc e) d B = simp unary_clauses (ap (λ k. 4 * k) (grow-add e d B))

pub grow-mono : (d e B : ℕ) → d ≤ e → grow d B ≤ grow e B
unfolding grow
grow-mono zero zero B l = le_refl B
grow-mono zero (suc e) B l = let r = grow-mono zero e B (omega arith) in omega arith
grow-mono (suc d) zero B l = absurd (not-suc-le-zero l)
grow-mono (suc d) (suc e) B l = let r = grow-mono d e B (omega arith) in omega arith

pub grow-scale : (e A B : ℕ) → A * grow e B ≡ grow e (A * B)
unfolding grow
grow-scale zero A B = refl
grow-scale (suc e) A B = mul_left_comm A 4 (grow e B) ∙ ap (λ k. 4 * k) (grow-scale e A B)

-- ---- powers
power-cube : (e : ℕ) (x : Interval) → 3 ≤ e → power_i e x ≡ cube_i x
unfolding power_i
power-cube e x l =
    let two : 2 ≤ e = omega arith in
    let more : e ≡ 2 → ⊥ = λ q. omega arith in
    rw (le-ltb e 2 two, ne_eqb e 2 more)

module _ {x : Interval} (h : InI end_max x) where
  low-square : Within (x.lo *ℤ x.lo) (end_max * end_max)
  low-square = within-mul h.low h.low

  high-square : Within (x.hi *ℤ x.hi) (end_max * end_max)
  high-square = within-mul h.high h.high

  in-range : InI (end_max * end_max) (square_range x)
  unfolding square_range
  in-range = record {
    order = order (holds_zero x);
    low = low (holds_zero x);
    high = max-both (λ z. Within z (end_max * end_max)) _ _ low-square high-square;
  }
    where
      order : (b : Bool)
          → cond b (pos 0) (min_ℤ (x.lo *ℤ x.lo) (x.hi *ℤ x.hi)) ≤ℤ max_ℤ (x.lo *ℤ x.lo) (x.hi *ℤ x.hi)
      order true = omega (zorder, square-nonneg x.lo, max-l (x.lo *ℤ x.lo) (x.hi *ℤ x.hi))
      order false =
          omega (zorder, min-l (x.lo *ℤ x.lo) (x.hi *ℤ x.hi), max-l (x.lo *ℤ x.lo) (x.hi *ℤ x.hi))

      low : (b : Bool) → Within (cond b (pos 0) (min_ℤ (x.lo *ℤ x.lo) (x.hi *ℤ x.hi))) (end_max * end_max)
      low true = record { abs = omega arith }
      low false = min-both (λ z. Within z (end_max * end_max)) _ _ low-square high-square

  in-square : InI (grow 2 mark) (square_i x)
  unfolding square_i grow
  in-square = in-out (grow 2 mark) (lit≤ tt) in-range

  in-cube : InI (grow 3 mark) (cube_i x)
  unfolding cube_i grow
  in-cube = in-mul (grow 3 mark) (lit≤ tt) in-square h

  pub in-power : (e : ℕ) → 0 < e → InI (grow e mark) (power_i e x)
  in-power zero s = absurd (not-suc-le-zero s)
  in-power (suc zero) s = unfold power_i grow in h
  in-power (suc (suc zero)) s = unfold power_i in in-square
  in-power (suc (suc (suc e))) s =
      rw (power-cube (suc (suc (suc e))) x (omega arith))
      (in-more (grow-mono 3 (suc (suc (suc e))) mark (omega arith)) in-cube)

  -- what the code's products and roundings ask
  pub fits-range : FitsMul x x
  fits-range = fits-mul (lit≤ tt) h h

  pub fits-square : Within (square_range x).hi up_max
  fits-square = up-within (lit≤ tt) in-range

  pub fits-cube : FitsTimes (square_i x) x
  unfolding grow
  fits-cube = fits-times (lit≤ tt) in-square h

-- what the square's code asks and takes
pub ruleset fitting = (choices, fits-range, fits-square)
