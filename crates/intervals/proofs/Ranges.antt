-- How large the ends can become, and that the code's results fit.
use mathlib.Core.Path.{◌≡◌}
use mathlib.Core.Bool.{true}
use Prim.Native.Nat.{ℕ, zero, suc, ◌+◌, ◌*◌, ◌^◌, ◌<◌, ◌≤◌, zero-le}
use native.Mathlib.Omega.{arith}
use native.Mathlib.Nat.{le_refl, le_trans, suc-mul}
use lib.Dec.{lt→ltb}
use lib.IntN.{ℤ, pos, ◌+ℤ◌}
use lib.Signed.{◌≤ℤ◌}
use mir.Syntax.{w64}
use mir.Val.{SFits}
use Rattle.sizes.specs.Bounds.{up_max}
use Rattle.integers.proofs.Parts.{zorder}
use Rattle.integers.proofs.Linear.{zlin}
use Rattle.integers.specs.Ranges.{Within}
use Rattle.integers.proofs.Ranges.{fits, within-add, within-neg, within-mul, within-mid}
use Rattle.integers.specs.Least.{min4, max4}
use Rattle.integers.proofs.Least.{min4-1, max4-1, min4-within, max4-within}
use Rattle.integers.proofs.Order.{mul-mono-l}
use Rattle.integers.proofs.Rounding.{floor-mono, floor≤ceil, floor-within, ceil-within, mid-lo, mid-hi}
use Rattle.lists.specs.Loops.{carry}
use Rattle.intervals.specs.declared.Interval.{Interval}
use Rattle.intervals.specs.Interval.{mark, zero_i, point_i, add_i, neg_i, sum_i, scale_i}
use Rattle.intervals.specs.Interval.{wide_i, out_i, mul_i, mid_i, cut_i, meets_i}
use Rattle.intervals.specs.Ranges.{FitsAdd, FitsNeg, FitsScale, FitsMid, FitsMul, FitsTimes, InI}
use Rattle.intervals.proofs.Division.{some}
use Rattle.intervals.proofs.Meeting.{cut_inside, cut-order}

pub in-zero : {B : ℕ} → InI B zero_i
in-zero = record { order = omega zorder; low = record { abs = zero-le }; high = record { abs = zero-le } }

pub in-point : {B : ℕ} {c : ℤ} → Within c B → InI B (point_i c)
in-point h = record { order = omega zorder; low = h; high = h }

pub in-more : {A B : ℕ} {a : Interval} → A ≤ B → InI A a → InI B a
in-more l h = record {
  order = h.order;
  low = record { abs = le_trans h.low.abs l };
  high = record { abs = le_trans h.high.abs l };
}

pub in-add : {A B : ℕ} {a b : Interval} → InI A a → InI B b → InI (A + B) (add_i a b)
unfolding add_i
in-add h k = record {
  order = sums h.order k.order;
  low = within-add h.low k.low;
  high = within-add h.high k.high;
}
  where
    sums : {a b c d : ℤ} → a ≤ℤ b → c ≤ℤ d → (a +ℤ c) ≤ℤ (b +ℤ d)
    sums h k = simp zlin (omega zorder)

pub in-neg : {A : ℕ} {a : Interval} → InI A a → InI A (neg_i a)
unfolding neg_i
in-neg h =
    record { order = simp zlin (omega (zorder, h.order)); low = within-neg h.high; high = within-neg h.low }

pub in-scale : {A : ℕ} {a : Interval} (e : ℕ) → InI A a → InI (e * A) (scale_i e a)
unfolding scale_i
in-scale e h = record {
  order = mul-mono-l {c = pos e} h.order (omega zorder);
  low = within-mul whole h.low;
  high = within-mul whole h.high;
}
  where
    whole : Within (pos e) e
    whole = record { abs = le_refl e }

pub in-wide : {A B : ℕ} {a b : Interval} → InI A a → InI B b → InI (A * B) (wide_i a b)
unfolding wide_i
in-wide h k = record {
  order = least≤greatest _ _ _ _;
  low = min4-within (within-mul h.low k.low) (within-mul h.low k.high) (within-mul h.high k.low)
      (within-mul h.high k.high);
  high = max4-within (within-mul h.low k.low) (within-mul h.low k.high) (within-mul h.high k.low)
      (within-mul h.high k.high);
}
  where
    least≤greatest : (p q r s : ℤ) → min4 p q r s ≤ℤ max4 p q r s
    least≤greatest p q r s = omega (zorder, min4-1 p q r s, max4-1 p q r s)

pub in-out : {A : ℕ} {a : Interval} (B : ℕ) → A ≤ mark * B → InI A a → InI B (out_i a)
unfolding out_i
in-out {a = a} B l h = record {
  order = omega (zorder, floor-mono mark some a.lo a.hi h.order, floor≤ceil mark some a.hi);
  low = floor-within mark some B h.low l;
  high = ceil-within mark some B h.high l;
}

pub in-mul : {A B : ℕ} {a b : Interval} (C : ℕ) → A * B ≤ mark * C → InI A a → InI B b → InI C (mul_i a b)
unfolding mul_i
in-mul C l h k = in-out C l (in-wide h k)

pub in_sum : (n B : ℕ) (f : ℕ → Interval) → ((i : ℕ) → i < n → InI B (f i)) → InI (n * B) (sum_i n f)
unfolding sum_i carry
in_sum zero B f h = in-zero
in_sum (suc n) B f h =
    in-more (omega (arith, suc-mul n B)) (in-add (in_sum n B f (λ i l. h i (omega arith))) (h n (omega arith)))

-- the middle of an interval lies in it
pub in-mid : {B : ℕ} {a : Interval} → InI B a → Within (mid_i a) B
unfolding mid_i
in-mid {a = a} h = within-mid h.low h.high (mid-lo a.lo a.hi h.order) (mid-hi a.lo a.hi h.order)

-- an interval cut by one that it meets
pub in_cut : {B : ℕ} {x k : Interval} → InI B x → k.lo ≤ℤ k.hi → meets_i x k ≡ true → InI B (cut_i x k)
in_cut {x = x} {k = k} h l m =
    let order = cut-order x k h.order l m in
    let inside = cut_inside x k in
    record {
      order = order;
      low = within-mid h.low h.high inside.low (omega (zorder, order, inside.high));
      high = within-mid h.low h.high (omega (zorder, order, inside.low)) inside.high;
    }

-- a number with a bound below 2 ^ 63 fits
small : {z : ℤ} {B : ℕ} → B < 2 ^ 63 → Within z B → SFits w64 z
small {B = B} l h = fits h (lt→ltb B (2 ^ 63) l)

pub fits-add : {A B : ℕ} {a b : Interval} → A + B < 2 ^ 63 → InI A a → InI B b → FitsAdd a b
fits-add l h k =
    record { low = small l (within-add h.low k.low); high = small l (within-add h.high k.high) }

pub fits_neg : {A : ℕ} {a : Interval} → A < 2 ^ 63 → InI A a → FitsNeg a
fits_neg l h = record { low = small l (within-neg h.low); high = small l (within-neg h.high) }

pub fits-scale : {A : ℕ} {a : Interval} (e : ℕ) → e * A < 2 ^ 63 → InI A a → FitsScale e a
unfolding scale_i
fits-scale e l h = record { low = small l (in-scale e h).low; high = small l (in-scale e h).high }

pub fits-mid : {A : ℕ} {a : Interval} → A + A < 2 ^ 63 → InI A a → FitsMid a
fits-mid l h = record { sum = small l (within-add h.low h.high) }

pub fits-mul : {A B : ℕ} {a b : Interval} → A * B < 2 ^ 63 → InI A a → InI B b → FitsMul a b
fits-mul l h k = record {
  left = h.order;
  right = k.order;
  ll = small l (within-mul h.low k.low);
  lh = small l (within-mul h.low k.high);
  hl = small l (within-mul h.high k.low);
  hh = small l (within-mul h.high k.high);
}

pub up-within : {A : ℕ} {a : Interval} → A ≤ up_max → InI A a → Within a.hi up_max
up-within l h = record { abs = le_trans h.high.abs l }

pub fits-times : {A B : ℕ} {a b : Interval} → A * B ≤ up_max → InI A a → InI B b → FitsTimes a b
fits-times l h k = record { exact = fits-mul (omega arith) h k; up = up-within l (in-wide h k) }
