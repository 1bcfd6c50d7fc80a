-- Intervals within intervals: smaller factors give a smaller product, factors may change places, a product over a sum
-- lies in the sum of products.
use mathlib.Core.Path.{◌≡◌}
use lib.IntN.{ℤ, ◌+ℤ◌, ◌*ℤ◌, *ℤ_comm}
use lib.Signed.{◌≤ℤ◌}
use Rattle.integers.proofs.Commutative.{*ℤ-distrib-l}
use Rattle.integers.proofs.Parts.{zorder}
use Rattle.integers.proofs.Linear.{zlin}
use Rattle.integers.proofs.Rounding.{floor-mono, ceil-mono, floor-super, ceil-sub}
use Rattle.integers.specs.Least.{min4, max4}
use Rattle.integers.proofs.Least.{min4-1, min4-2, min4-3, min4-4, max4-1, max4-2, max4-3}
use Rattle.integers.proofs.Least.{max4-4, min4-mul, max4-mul, min4-greatest, max4-least}
use Rattle.intervals.specs.declared.Interval.{Interval}
use Rattle.intervals.specs.Interval.{mark, add_i, wide_i, out_i, mul_i}
use Rattle.intervals.specs.Fraction.{Inside}
use Rattle.intervals.proofs.Division.{some}
use Rattle.intervals.proofs.Ends.{ends}

pub inside-trans : {A B C : Interval} → Inside A B → Inside B C → Inside A C
inside-trans h k = record { low = omega (zorder, h.low, k.low); high = omega (zorder, h.high, k.high) }

pub inside-out : {A B : Interval} → Inside A B → Inside (out_i A) (out_i B)
unfolding out_i
inside-out {A} {B} h =
    record { low = floor-mono mark some B.lo A.lo h.low; high = ceil-mono mark some A.hi B.hi h.high }

-- a sum rounded once lies in the sum of its parts rounded by themselves
pub out-sum : (A B : Interval) → Inside (out_i (add_i A B)) (add_i (out_i A) (out_i B))
unfolding add_i out_i
out-sum A B = record { low = floor-super mark some A.lo B.lo; high = ceil-sub mark some A.hi B.hi }

-- each end of the smaller factors is a member of the larger ones
module _ {A B C D : Interval} (oa : A.lo ≤ℤ A.hi) (ob : B.lo ≤ℤ B.hi) (h : Inside A C) (k : Inside B D) where
  pub inside-wide : Inside (wide_i A B) (wide_i C D)
  unfolding wide_i
  inside-wide = record {
    low = min4-greatest _ _ _ _ _
        (min4-mul h.low ah k.low bh) (min4-mul h.low ah bl k.high) (min4-mul al h.high k.low bh)
        (min4-mul al h.high bl k.high);
    high = max4-least
        (max4-mul h.low ah k.low bh) (max4-mul h.low ah bl k.high) (max4-mul al h.high k.low bh)
        (max4-mul al h.high bl k.high);
  }
    where
      ah : A.lo ≤ℤ C.hi
      ah = omega (zorder, oa, h.high)

      al : C.lo ≤ℤ A.hi
      al = omega (zorder, oa, h.low)

      bh : B.lo ≤ℤ D.hi
      bh = omega (zorder, ob, k.high)

      bl : D.lo ≤ℤ B.hi
      bl = omega (zorder, ob, k.low)

  pub inside-mul : Inside (mul_i A B) (mul_i C D)
  unfolding mul_i
  inside-mul = inside-out inside-wide

min4-swap : (p q r s : ℤ) → min4 p q r s ≡ min4 p r q s
min4-swap p q r s =
    let h = min4-greatest (min4 p q r s) p r q s (min4-1 p q r s) (min4-3 p q r s) (min4-2 p q r s) (min4-4 p q r s) in
    let k = min4-greatest (min4 p r q s) p q r s (min4-1 p r q s) (min4-3 p r q s) (min4-2 p r q s) (min4-4 p r q s) in
    omega zorder

max4-swap : (p q r s : ℤ) → max4 p q r s ≡ max4 p r q s
max4-swap p q r s =
    let h = max4-least (max4-1 p r q s) (max4-3 p r q s) (max4-2 p r q s) (max4-4 p r q s) in
    let k = max4-least (max4-1 p q r s) (max4-3 p q r s) (max4-2 p q r s) (max4-4 p q r s) in
    omega zorder

pub wide_i-comm : (A B : Interval) → wide_i A B ≡ wide_i B A
unfolding wide_i
wide_i-comm A B =
    rw (*ℤ_comm B.lo A.lo, *ℤ_comm B.lo A.hi, *ℤ_comm B.hi A.lo, *ℤ_comm B.hi A.hi)
    (ends (min4-swap _ _ _ _) (max4-swap _ _ _ _))

pub mul_i-comm : (A B : Interval) → mul_i A B ≡ mul_i B A
unfolding mul_i
mul_i-comm A B = rw (wide_i-comm A B)

module _ (A B C : Interval) where
  pub wide-over-sum : Inside (wide_i A (add_i B C)) (add_i (wide_i A B) (wide_i A C))
  unfolding wide_i add_i
  wide-over-sum = record {
    low = min4-greatest _ _ _ _ _
        (above A.lo B.lo C.lo (min4-1 _ _ _ _) (min4-1 _ _ _ _))
        (above A.lo B.hi C.hi (min4-2 _ _ _ _) (min4-2 _ _ _ _))
        (above A.hi B.lo C.lo (min4-3 _ _ _ _) (min4-3 _ _ _ _))
        (above A.hi B.hi C.hi (min4-4 _ _ _ _) (min4-4 _ _ _ _));
    high = max4-least
        (below A.lo B.lo C.lo (max4-1 _ _ _ _) (max4-1 _ _ _ _))
        (below A.lo B.hi C.hi (max4-2 _ _ _ _) (max4-2 _ _ _ _))
        (below A.hi B.lo C.lo (max4-3 _ _ _ _) (max4-3 _ _ _ _))
        (below A.hi B.hi C.hi (max4-4 _ _ _ _) (max4-4 _ _ _ _));
  }
    where
      above : {L M : ℤ} (x c e : ℤ) → L ≤ℤ (x *ℤ c) → M ≤ℤ (x *ℤ e) → (L +ℤ M) ≤ℤ (x *ℤ (c +ℤ e))
      above x c e h k = rw (*ℤ-distrib-l x c e) (simp zlin (omega zorder))

      below : {L M : ℤ} (x c e : ℤ) → (x *ℤ c) ≤ℤ L → (x *ℤ e) ≤ℤ M → (x *ℤ (c +ℤ e)) ≤ℤ (L +ℤ M)
      below x c e h k = rw (*ℤ-distrib-l x c e) (simp zlin (omega zorder))

  pub mul-over-sum : Inside (mul_i A (add_i B C)) (add_i (mul_i A B) (mul_i A C))
  unfolding mul_i
  mul-over-sum = inside-trans (inside-out wide-over-sum) (out-sum (wide_i A B) (wide_i A C))
