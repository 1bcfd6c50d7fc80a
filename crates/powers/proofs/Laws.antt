-- The two laws of one unknown that demand 3 leans on. Let x over d and y over d lie in X, and Q = 65,536 d, so that
-- x over Q is the member in units and 65,536 x over Q the same in marks.
use mathlib.Core.Path.{refl}
use mathlib.Core.List.{[], ◌∷◌}
use Prim.Native.Nat.{ℕ, zero, suc, ◌≤◌, ◌<◌}
use native.Mathlib.Omega.{arith}
use lib.IntN.{ℤ, pos, ◌*ℤ◌}
use Rattle.sizes.specs.Sizes.{degree_max}
use Rattle.integers.specs.Sums.{sum_to}
use Rattle.integers.proofs.Parts.{zorder}
use Rattle.integers.proofs.Ring.{lit, ◌⊕◌, ◌⊗◌, ring}
use Rattle.intervals.specs.Interval.{mark}
use Rattle.intervals.specs.Fraction.{In}
use Rattle.intervals.specs.declared.Interval.{Interval}
use Rattle.intervals.proofs.Hold.{hold-raise, hold-mean, hold-mul}
use Rattle.powers.specs.Exact.{power}
use Rattle.powers.specs.Powers.{cube_i, power_i}
use Rattle.powers.proofs.Exact.{quotient}
use Rattle.powers.proofs.Squares.{hold-square, hold-third}

high : (e : ℕ) → suc (suc (suc (suc e))) ≤ degree_max → ⊥
high e l = omega arith

module _ {x d : ℤ} {X : Interval} (h : In x d X) where
  -- power: the exact power of a member lies in the power over X
  pub hold-power : (e : ℕ) → 0 < e → e ≤ degree_max
      → In (power x e *ℤ pos mark) (power (d *ℤ pos mark) e) (power_i e X)
  unfolding power power_i cube_i
  hold-power zero s l = absurd (omega arith)
  hold-power (suc zero) s l =
      rw (
        ring (x ∷ pos mark ∷ []) (λ x m. (lit (pos 1) ⊗ x) ⊗ m) (λ x m. x ⊗ m) refl,
        ring (d ∷ pos mark ∷ []) (λ d m. lit (pos 1) ⊗ (d ⊗ m)) (λ d m. d ⊗ m) refl,
      )
      (hold-raise h (omega zorder))
  hold-power (suc (suc zero)) s l =
      rw (
        ring (x ∷ pos mark ∷ []) (λ x m. ((lit (pos 1) ⊗ x) ⊗ x) ⊗ m) (λ x m. (x ⊗ x) ⊗ m) refl,
        ring (d ∷ pos mark ∷ []) (λ d m. (lit (pos 1) ⊗ (d ⊗ m)) ⊗ (d ⊗ m)) (λ d m. ((d ⊗ d) ⊗ m) ⊗ m) refl,
      )
      (hold-raise (hold-square h) (omega zorder))
  hold-power (suc (suc (suc zero))) s l =
      rw (
        ring (x ∷ pos mark ∷ []) (λ x m. (((lit (pos 1) ⊗ x) ⊗ x) ⊗ x) ⊗ m) (λ x m. ((x ⊗ x) ⊗ x) ⊗ m) refl,
        ring (d ∷ pos mark ∷ []) (λ d m. ((lit (pos 1) ⊗ (d ⊗ m)) ⊗ (d ⊗ m)) ⊗ (d ⊗ m))
            (λ d m. ((((d ⊗ d) ⊗ m) ⊗ d) ⊗ m) ⊗ m) refl,
      )
      (hold-raise (hold-mul (hold-square h) h) (omega zorder))
  hold-power (suc (suc (suc (suc e)))) s l = absurd (high e l)

  -- quotient: the sum of x^i y^(e-i) over i, divided by e + 1, lies in the power e over X
  pub hold-quotient : {y : ℤ} → In y d X → (e : ℕ) → 0 < e → suc e ≤ degree_max
      → In (quotient (suc e) x y *ℤ pos mark) (power (d *ℤ pos mark) e *ℤ pos (suc e)) (power_i e X)
  unfolding power power_i quotient sum_to
  hold-quotient {y} k zero s l = absurd (omega arith)
  hold-quotient {y} k (suc zero) s l =
      rw (
        ring (x ∷ y ∷ pos mark ∷ [])
            (λ x y m. ((lit (pos 0) ⊕ lit (pos 1) ⊗ (lit (pos 1) ⊗ y)) ⊕ (lit (pos 1) ⊗ x) ⊗ lit (pos 1)) ⊗ m)
            (λ x y m. (x ⊕ y) ⊗ m) refl,
        ring (d ∷ pos mark ∷ []) (λ d m. (lit (pos 1) ⊗ (d ⊗ m)) ⊗ lit (pos 2)) (λ d m. (d ⊕ d) ⊗ m) refl,
      )
      (hold-raise (hold-mean h k) (omega zorder))
  hold-quotient {y} k (suc (suc zero)) s l =
      rw (
        ring (x ∷ y ∷ pos mark ∷ [])
            (λ x y m. (((lit (pos 0) ⊕ lit (pos 1) ⊗ ((lit (pos 1) ⊗ y) ⊗ y)) ⊕ (lit (pos 1) ⊗ x) ⊗ (lit (pos 1) ⊗ y))
            ⊕ ((lit (pos 1) ⊗ x) ⊗ x) ⊗ lit (pos 1)) ⊗ m)
            (λ x y m. (x ⊗ x ⊕ x ⊗ y ⊕ y ⊗ y) ⊗ m) refl,
        ring (d ∷ pos mark ∷ []) (λ d m. ((lit (pos 1) ⊗ (d ⊗ m)) ⊗ (d ⊗ m)) ⊗ lit (pos 3))
            (λ d m. ((d ⊗ d ⊕ d ⊗ d ⊕ d ⊗ d) ⊗ m) ⊗ m) refl,
      )
      (hold-raise (hold-third h k) (omega zorder))
  hold-quotient k (suc (suc (suc e))) s l = absurd (high e l)
