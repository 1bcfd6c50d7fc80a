-- Every sum of products fits, and how large D, B and E can be.
use mathlib.Core.Path.{◌≡◌}
use mathlib.Core.Bool.{Bool, true, false, cond}
use Prim.Native.Nat.{ℕ, ◌+◌, ◌*◌, ◌^◌, ◌<◌, ◌≤◌, zero-le}
use native.Mathlib.Omega.{arith}
use native.Mathlib.Nat.{le_refl, le_trans, mul-le-mul_right, suc-mul}
use lib.Dec.{eqb}
use lib.IntN.{ℤ, pos}
use Rattle.sizes.specs.Sizes.{entry_max}
use Rattle.integers.specs.Ranges.{Within}
use Rattle.intervals.specs.Interval.{mark, point_i, add_i, neg_i, wide_i}
use Rattle.intervals.specs.Ranges.{FitsAdd, FitsNeg, FitsMul, InI}
use Rattle.intervals.proofs.Ranges.{in-point, in-add, in-neg, in-wide, in-out, in_sum, up-within}
use Rattle.intervals.proofs.Ranges.{fits-add, fits_neg, fits-mul}
use Rattle.sizes.specs.Bounds.{value_max, slope_max, z_max, d_max, b_max, e_max, up_max}
use Rattle.sizes.proofs.Sums.{d-room, b-room, e-room}
use Rattle.intervals.specs.declared.Interval.{Interval}
use Rattle.matrices.specs.Products.{dot_i, unit_z, entry_b, d_of, b_of, e_of}
use Rattle.matrices.specs.Ranges.{DIn, BIn, EIn}

pub in-dot : (n A B : ℕ) {a b : ℕ → Interval} → ((k : ℕ) → k < n → InI A (a k)) → ((k : ℕ) → k < n → InI B (b k))
    → InI (n * (A * B)) (dot_i n a b)
unfolding dot_i
in-dot n A B {a} {b} h g = in_sum n (A * B) (λ k. wide_i (a k) (b k)) (λ k l. in-wide (h k l) (g k l))

-- a scalar product over n places, its factors within `left` and `right`
pub record DotIn (n : ℕ) (a b : ℕ → Interval) : Type 0 where
  pub left : ℕ
  pub right : ℕ
  pub lefts : (k : ℕ) → k < n → InI left (a k)
  pub rights : (k : ℕ) → k < n → InI right (b k)
  pub sum : n * (left * right) ≤ up_max

-- its loop
module _ {n : ℕ} {a b : ℕ → Interval} (h : DotIn n a b) where
  -- with place j there are at most n products
  part : (j P : ℕ) → j < n → n * P ≤ up_max → j * P + P < 2 ^ 63
  part j P l s = omega (arith, mul-le-mul_right P l, suc-mul j P)

  pub product-fits : (j : ℕ) → j < n → FitsMul (a j) (b j)
  product-fits j l = fits-mul (omega (arith, part j (h.left * h.right) l h.sum)) (h.lefts j l) (h.rights j l)

  pub more-fits : (j : ℕ) {s v : Interval} → j < n → s ≡ dot_i j a b → v ≡ wide_i (a j) (b j) → FitsAdd s v
  more-fits j l e q = rw (e, q) (fits-add (part j (h.left * h.right) l h.sum)
      (in-dot j h.left h.right (λ k m. h.lefts k (omega arith)) (λ k m. h.rights k (omega arith)))
      (in-wide (h.lefts j l) (h.rights j l)))

  pub round-fits : {s : Interval} → s ≡ dot_i n a b → Within s.hi up_max
  round-fits e = rw e (up-within h.sum (in-dot n h.left h.right h.lefts h.rights))

-- D
module _ {n : ℕ} {C : ℕ → ℕ → ℤ} {F : ℕ → Interval} (h : DIn n C F) (i : ℕ) (l : i < n) where
  pub dot-d : DotIn n (λ k. point_i (C i k)) F
  dot-d = record {
    left = entry_max;
    right = value_max;
    lefts = λ k m. in-point (h.inverse i k l m);
    rights = h.values;
    sum = le_trans (mul-le-mul_right (entry_max * value_max) h.room) d-room;
  }

  pub in-d : InI d_max (d_of n C F i)
  unfolding d_of
  in-d = in-out d_max (omega (arith, h.room))
      (in-dot n entry_max value_max (λ k m. in-point (h.inverse i k l m)) h.values)

-- B
unit-within : (i j : ℕ) → Within (unit_z i j) (mark * mark)
unfolding unit_z
unit-within i j = by (eqb i j)
  where
    by : (t : Bool) → Within (cond t (pos (mark * mark)) (pos 0)) (mark * mark)
    by true = record { abs = le_refl (mark * mark) }
    by false = record { abs = zero-le }

module _ {n : ℕ} {C : ℕ → ℕ → ℤ} {S : ℕ → ℕ → Interval} (h : BIn n C S) (i : ℕ) (l : i < n) (j : ℕ) (m : j < n) where
  whole : mark * mark + n * (entry_max * slope_max) ≤ up_max
  whole = omega (arith, mul-le-mul_right (entry_max * slope_max) h.room, b-room)

  pub dot-b : DotIn n (λ k. point_i (C i k)) (λ k. S k j)
  dot-b = record {
    left = entry_max;
    right = slope_max;
    lefts = λ k u. in-point (h.inverse i k l u);
    rights = λ k u. h.slopes k j u m;
    sum = omega (arith, whole);
  }

  product-in : InI (n * (entry_max * slope_max)) (dot_i n (λ k. point_i (C i k)) (λ k. S k j))
  product-in = in-dot n entry_max slope_max (λ k u. in-point (h.inverse i k l u)) (λ k u. h.slopes k j u m)

  pub turned-fits : {p : Interval} → p ≡ dot_i n (λ k. point_i (C i k)) (λ k. S k j) → FitsNeg p
  turned-fits e = rw e (fits_neg (omega (arith, whole)) product-in)

  pub rest-fits : {u t : Interval} → u ≡ point_i (unit_z i j)
      → t ≡ neg_i (dot_i n (λ k. point_i (C i k)) (λ k. S k j)) → FitsAdd u t
  rest-fits e q = rw (e, q) (fits-add (omega (arith, whole)) (in-point (unit-within i j)) (in-neg product-in))

  pub round-rest : {s : Interval}
      → s ≡ add_i (point_i (unit_z i j)) (neg_i (dot_i n (λ k. point_i (C i k)) (λ k. S k j))) → Within s.hi up_max
  round-rest e = rw e (up-within whole (in-add (in-point (unit-within i j)) (in-neg product-in)))

  pub in_b : InI b_max (b_of n C S i j)
  unfolding b_of entry_b
  in_b = in-out b_max (omega (arith, h.room)) (in-add (in-point (unit-within i j)) (in-neg product-in))

-- E
module _ {n : ℕ} {B : ℕ → ℕ → Interval} {Z : ℕ → Interval} (h : EIn n B Z) (i : ℕ) (l : i < n) where
  pub dot-e : DotIn n (B i) Z
  dot-e = record {
    left = b_max;
    right = z_max;
    lefts = λ k m. h.factors i k l m;
    rights = h.sides;
    sum = le_trans (mul-le-mul_right (b_max * z_max) h.room) e-room;
  }

  pub in_e : InI e_max (e_of n B Z i)
  unfolding e_of
  in_e = in-out e_max (omega (arith, h.room)) (in-dot n b_max z_max (λ k m. h.factors i k l m) h.sides)
