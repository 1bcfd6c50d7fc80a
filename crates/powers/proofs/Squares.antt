-- The true range of a square: the numbers of X times X that are not negative. So it holds the squares of X's members,
-- and a third of x² + x y + y² for any two of them; x y itself need not lie in it.
use mathlib.Core.Path.{◌≡◌, refl}
use mathlib.Core.Bool.{Bool, true, false, cond}
use mathlib.Core.Logic.{◌⊎◌, inl, inr, ⊎_elim}
use mathlib.Core.List.{[], ◌∷◌}
use lib.IntN.{ℤ, pos, ◌+ℤ◌, ◌-ℤ◌, ◌*ℤ◌, zero-*ℤ, *ℤ_comm}
use lib.Signed.{◌≤ℤ◌, ◌<ℤ◌, le_z}
use Rattle.integers.proofs.Parts.{zorder}
use Rattle.integers.proofs.Linear.{zlin}
use Rattle.integers.proofs.Ring.{lit, ◌⊕◌, ◌⊖◌, ◌⊗◌, ring}
use Rattle.integers.proofs.Order.{le_z-false, mul-mono-l, mul-mono-r, mul-anti-r, square-nonneg, nonneg}
use Rattle.integers.specs.Least.{min_ℤ, max_ℤ, min4, max4}
use Rattle.integers.proofs.Least.{min-l, min-r, max-l, max-r, min4-greatest, max4-least}
use Rattle.lists.specs.Loops.{both}
use Rattle.intervals.specs.Interval.{mark, wide_i}
use Rattle.intervals.specs.Fraction.{In}
use Rattle.intervals.specs.declared.Interval.{Interval}
use Rattle.intervals.proofs.Hold.{hold-order, hold-mean, hold-wide, hold-out}
use Rattle.powers.specs.Powers.{holds_zero, square_range, square_i}

-- ---- the products of X's ends lie below the high end of the square, and above its low end where X does not hold 0
module _ (a b : ℤ) (order : a ≤ℤ b) where
  top : max4 (a *ℤ a) (a *ℤ b) (b *ℤ a) (b *ℤ b) ≤ℤ max_ℤ (a *ℤ a) (b *ℤ b)
  top = max4-least (max-l (a *ℤ a) (b *ℤ b)) ab (rw (*ℤ_comm b a) ab) (max-r (a *ℤ a) (b *ℤ b))
    where
      twice : pos 2 *ℤ (a *ℤ b) ≡ a *ℤ a +ℤ b *ℤ b -ℤ (b -ℤ a) *ℤ (b -ℤ a)
      twice =
          ring (a ∷ b ∷ []) (λ a b. lit (pos 2) ⊗ (a ⊗ b)) (λ a b. a ⊗ a ⊕ b ⊗ b ⊖ (b ⊖ a) ⊗ (b ⊖ a)) refl

      ab : (a *ℤ b) ≤ℤ max_ℤ (a *ℤ a) (b *ℤ b)
      ab = omega
          (zorder, simp zlin at twice, square-nonneg (b -ℤ a), max-l (a *ℤ a) (b *ℤ b), max-r (a *ℤ a) (b *ℤ b))

  bottom : (pos 0 <ℤ a) ⊎ (b <ℤ pos 0) → min_ℤ (a *ℤ a) (b *ℤ b) ≤ℤ min4 (a *ℤ a) (a *ℤ b) (b *ℤ a) (b *ℤ b)
  bottom side =
      min4-greatest _ _ _ _ _ (min-l (a *ℤ a) (b *ℤ b)) ab (rw (*ℤ_comm b a) ab) (min-r (a *ℤ a) (b *ℤ b))
    where
      ab : min_ℤ (a *ℤ a) (b *ℤ b) ≤ℤ (a *ℤ b)
      ab =
          ⊎_elim
          (λ p. let n : pos 0 ≤ℤ a = omega zorder in omega (zorder, min-l (a *ℤ a) (b *ℤ b), mul-mono-l order n))
          (λ p. let n : b ≤ℤ pos 0 = omega zorder in omega (zorder, min-r (a *ℤ a) (b *ℤ b), mul-anti-r order n)) side

range-holds : {u U : ℤ} {X : Interval} → X.lo ≤ℤ X.hi → pos 0 ≤ℤ u → In u U (wide_i X X) → In u U (square_range X)
unfolding square_range holds_zero wide_i
range-holds {u} {U} {X} o p h = record {
  den = h.den;
  low = low (le_z X.lo (pos 0)) (le_z (pos 0) X.hi) refl refl;
  high = omega (zorder, h.high, mul-mono-r (top X.lo X.hi o) (nonneg h.den));
}
  where
    from : (pos 0 <ℤ X.lo) ⊎ (X.hi <ℤ pos 0) → (min_ℤ (X.lo *ℤ X.lo) (X.hi *ℤ X.hi) *ℤ U) ≤ℤ u
    from s = omega (zorder, h.low, mul-mono-r (bottom X.lo X.hi o s) (nonneg h.den))

    low : (s t : Bool) → le_z X.lo (pos 0) ≡ s → le_z (pos 0) X.hi ≡ t
        → (cond (both s t) (pos 0) (min_ℤ (X.lo *ℤ X.lo) (X.hi *ℤ X.hi)) *ℤ U) ≤ℤ u
    low true true d e = rw (zero-*ℤ U) p
    low true false d e = from (inr (le_z-false (pos 0) X.hi e))
    low false t d e = from (inl (le_z-false X.lo (pos 0) d))

module _ {x d : ℤ} {X : Interval} (h : In x d X) where
  pub hold-square : In (x *ℤ x) ((d *ℤ d) *ℤ pos mark) (square_i X)
  unfolding square_i
  hold-square = hold-out (range-holds (hold-order h) (square-nonneg x) (hold-wide h h))

  -- x² + x y + y² is never negative, and at most three times the larger square
  pub hold-third : {y : ℤ} → In y d X
      → In (x *ℤ x +ℤ x *ℤ y +ℤ y *ℤ y) ((d *ℤ d +ℤ d *ℤ d +ℤ d *ℤ d) *ℤ pos mark) (square_i X)
  unfolding square_i
  hold-third {y} k =
      hold-out
      (range-holds (hold-order h) above (hold-mean (hold-mean (hold-wide h h) (hold-wide h k)) (hold-wide k k)))
    where
      four : pos 4 *ℤ (x *ℤ x +ℤ x *ℤ y +ℤ y *ℤ y) ≡ (pos 2 *ℤ x +ℤ y) *ℤ (pos 2 *ℤ x +ℤ y) +ℤ pos 3 *ℤ (y *ℤ y)
      four =
          ring (x ∷ y ∷ []) (λ x y. lit (pos 4) ⊗ (x ⊗ x ⊕ x ⊗ y ⊕ y ⊗ y))
          (λ x y. (lit (pos 2) ⊗ x ⊕ y) ⊗ (lit (pos 2) ⊗ x ⊕ y) ⊕ lit (pos 3) ⊗ (y ⊗ y)) refl

      quarter : (g a b : ℤ) → pos 4 *ℤ g ≡ a +ℤ pos 3 *ℤ b → pos 0 ≤ℤ a → pos 0 ≤ℤ b → pos 0 ≤ℤ g
      quarter g a b e p r = omega (zorder, simp zlin at e)

      above : pos 0 ≤ℤ (x *ℤ x +ℤ x *ℤ y +ℤ y *ℤ y)
      above = quarter _ _ _ four (square-nonneg (pos 2 *ℤ x +ℤ y)) (square-nonneg y)
