-- Two intervals that meet, and the cut of one with the other.
use mathlib.Core.Path.{◌≡◌}
use mathlib.Core.Bool.{true}
use lib.IntN.{ℤ, ◌*ℤ◌}
use lib.Signed.{◌≤ℤ◌, le_z}
use Rattle.integers.proofs.Parts.{zorder}
use Rattle.integers.specs.Least.{min_ℤ}
use Rattle.integers.proofs.Least.{min-l, min-both, max-l, max-both}
use Rattle.integers.proofs.Order.{le_z-true, le-le_z, cancel-r}
use Rattle.lists.proofs.All.{both-fst, both-snd}
use Rattle.intervals.specs.declared.Interval.{Interval}
use Rattle.intervals.specs.Interval.{meets_i, cut_i}
use Rattle.intervals.specs.Fraction.{In, Inside}

-- the cut lies in what is cut
pub cut_inside : (x k : Interval) → Inside (cut_i x k) x
unfolding cut_i
cut_inside x k = record { low = max-l x.lo k.lo; high = min-l x.hi k.hi }

-- the ends of the cut stand in order where the two meet
pub cut-order : (x k : Interval) → x.lo ≤ℤ x.hi → k.lo ≤ℤ k.hi → meets_i x k ≡ true → (cut_i x k).lo ≤ℤ (cut_i x k).hi
unfolding cut_i meets_i
cut-order x k h l m =
    max-both (λ z. z ≤ℤ min_ℤ x.hi k.hi) x.lo k.lo
    (min-both (λ z. x.lo ≤ℤ z) x.hi k.hi h (le_z-true _ _ (both-snd (le_z k.lo x.hi) _ m)))
    (min-both (λ z. k.lo ≤ℤ z) x.hi k.hi (le_z-true _ _ (both-fst (le_z k.lo x.hi) _ m)) l)

-- a fraction in both is in the cut, and the two meet
pub hold-cut : {u U : ℤ} {A B : Interval} → In u U A → In u U B → In u U (cut_i A B)
unfolding cut_i
hold-cut {u} {U} {A} {B} h k = record {
  den = h.den;
  low = max-both (λ z. (z *ℤ U) ≤ℤ u) A.lo B.lo h.low k.low;
  high = min-both (λ z. u ≤ℤ (z *ℤ U)) A.hi B.hi h.high k.high;
}

pub hold-meets : {u U : ℤ} {A B : Interval} → In u U A → In u U B → meets_i A B ≡ true
unfolding meets_i
hold-meets {u} {U} {A} {B} h k = rw (le-le_z B.lo A.hi below, le-le_z A.lo B.hi above)
  where
    below : B.lo ≤ℤ A.hi
    below = cancel-r B.lo A.hi U h.den (omega (zorder, h.high, k.low))

    above : A.lo ≤ℤ B.hi
    above = cancel-r A.lo B.hi U h.den (omega (zorder, h.low, k.high))
