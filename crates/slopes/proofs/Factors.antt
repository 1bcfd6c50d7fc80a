-- The factor of one unknown in a term over a box holds what the laws of one unknown say of its power.
use mathlib.Core.Path.{refl}
use Prim.Native.Nat.{ℕ, zero, suc, ◌≤◌}
use native.Mathlib.Omega.{arith}
use lib.IntN.{ℤ, pos, ◌*ℤ◌}
use lib.Signed.{◌<ℤ◌}
use Rattle.sizes.specs.Sizes.{degree_max}
use Rattle.integers.specs.Sums.{sum_to}
use Rattle.integers.proofs.Commutative.{*ℤ-assoc}
use Rattle.integers.proofs.Parts.{zorder}
use Rattle.integers.proofs.Order.{pos-mul}
use Rattle.intervals.specs.Interval.{mark, mul_i}
use Rattle.intervals.specs.Fraction.{In}
use Rattle.intervals.proofs.Hold.{hold-cancel, hold-mul}
use Rattle.intervals.specs.declared.Interval.{Interval}
pub use Rattle.powers.proofs.Exact.{times-one, power-one, power_pos, power-add}
use Rattle.powers.proofs.Exact.{quotient}
use Rattle.powers.proofs.Laws.{hold-power, hold-quotient}
use Rattle.slopes.specs.Terms.{factor_i}
use Rattle.slopes.specs.Fractions.{units_of, power}
use Rattle.slopes.proofs.Cases.{factor-none, factor-some}

pub units-pos : {d : ℤ} → pos 0 <ℤ d → pos 0 <ℤ units_of d
units-pos h = pos-mul h (omega zorder)

module _ {u U : ℤ} {A : Interval} (h : In u U A) where
  -- v is counted in units
  product : (v : ℤ) {W : ℤ} {B : Interval} → In (v *ℤ pos mark) W B → In (u *ℤ v) (U *ℤ W) (mul_i A B)
  product v k =
      hold-cancel {W = pos mark} (pos-mul h.den k.den) (omega zorder)
      (rw (*ℤ-assoc u v (pos mark)) (hold-mul h k))

  module _ {x d : ℤ} {X : Interval} (k : In x d X) where
    pub factor-power : (e : ℕ) → e ≤ degree_max → In (u *ℤ power x e) (U *ℤ power (units_of d) e) (factor_i e A X)
    factor-power zero l = unfold power in (rw (times-one u, times-one U, factor-none 0 A X refl) h)
    factor-power (suc e) l =
        rw (factor-some (suc e) A X (omega arith)) (product (power x (suc e)) (hold-power k (suc e) (omega arith) l))

    pub factor-quotient : {y : ℤ} → In y d X → (e : ℕ) → suc e ≤ degree_max
        → In (u *ℤ quotient (suc e) x y) (U *ℤ power (units_of d) e *ℤ pos (suc e)) (factor_i e A X)
    factor-quotient g zero l =
        unfold power quotient sum_to in
        (rw (times-one u, times-one (U *ℤ pos 1), times-one U, factor-none 0 A X refl) h)
    factor-quotient g (suc e) l =
        rw (factor-some (suc e) A X (omega arith), *ℤ-assoc U (power (units_of d) (suc e)) (pos (suc (suc e))))
        (product (quotient (suc (suc e)) x _) (hold-quotient k g (suc e) (omega arith) l))
