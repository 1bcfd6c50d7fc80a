-- Both halves of a box are boxes in range, and each point of the box lies in one of them.
use mathlib.Core.Path.{◌≡◌, ◌∙◌}
use mathlib.Core.List.{List}
use mathlib.Core.Logic.{◌⊎◌, inl, inr, ⊎_elim}
use Prim.Native.Nat.{ℕ, ◌≤◌, ◌<◌}
use native.Mathlib.Omega.{arith}
use lib.IntN.{ℤ, ◌*ℤ◌}
use lib.ListN.{length, set, length-set}
use lib.Seq.{get_or-set_same, get_or-set_other}
use lib.Signed.{◌≤ℤ◌}
use Rattle.sizes.specs.Sizes.{n_max, end_max}
use Rattle.integers.proofs.Order.{total_ℤ}
use Rattle.integers.proofs.Parts.{zorder}
use Rattle.integers.proofs.Rounding.{mid-lo, mid-hi}
use Rattle.intervals.specs.Fraction.{In}
use Rattle.intervals.specs.Interval.{zero_i, mid_i}
use Rattle.intervals.specs.Places.{side_at}
use Rattle.intervals.specs.Ranges.{InI}
use Rattle.intervals.specs.declared.Interval.{Interval}
use Rattle.intervals.proofs.Ranges.{in-mid}
use Rattle.slopes.specs.Fractions.{InBox}
use Rattle.slopes.specs.Ranges.{BoxIn}
use Rattle.edges.specs.Edges.{widest_of, low_part, high_part, low_half, high_half}
use Rattle.edges.proofs.Found.{same_or, widest-found, widest-in}

-- ---- one interval
mid-above : (a : Interval) → a.lo ≤ℤ a.hi → a.lo ≤ℤ mid_i a
unfolding mid_i
mid-above a h = mid-lo a.lo a.hi h

mid-below : (a : Interval) → a.lo ≤ℤ a.hi → mid_i a ≤ℤ a.hi
unfolding mid_i
mid-below a h = mid-hi a.lo a.hi h

low_fits : {a : Interval} → InI end_max a → InI end_max (low_part a)
low_fits {a} h = record { order = mid-above a h.order; low = h.low; high = in-mid h }

high_fits : {a : Interval} → InI end_max a → InI end_max (high_part a)
high_fits {a} h = record { order = mid-below a h.order; low = in-mid h; high = h.high }

in_either : {u d : ℤ} {a : Interval} → In u d a → In u d (low_part a) ⊎ In u d (high_part a)
in_either {u} {d} {a} h =
    ⊎_elim (λ l. inl (record { den = h.den; low = h.low; high = l }))
    (λ l. inr (record { den = h.den; low = omega zorder; high = h.high })) (total_ℤ u (mid_i a *ℤ d))

-- ---- the box x with another interval as side k
module _ {n : ℕ} (x : List Interval) (k : ℕ) (room : k < length x) (a : Interval) where
  put_in : BoxIn n (side_at x) → InI end_max a → BoxIn n (side_at (set x k a))
  put_in box h = record {
    places = box.places;
    each = λ i l.
        ⊎_elim (λ e. rw e (rw (get_or-set_same x k a zero_i room) h))
        (λ e. rw (get_or-set_other x k i a zero_i e) (box.each i l)) (same_or i k);
  }

  put_holds : {P : ℕ → ℤ} {d : ℤ} → InBox n P d (side_at x) → In (P k) d a → InBox n P d (side_at (set x k a))
  put_holds p h = record {
    den = p.den;
    each = λ i l.
        ⊎_elim (λ e. rw e (rw (get_or-set_same x k a zero_i room) h))
        (λ e. rw (get_or-set_other x k i a zero_i e) (p.each i l)) (same_or i k);
  }

-- ---- the halves of a box of n unknowns
module _ {n : ℕ} (x : List Interval) (some : 1 ≤ n) (size : length x ≡ n_max) (box : BoxIn n (side_at x)) where
  live : widest_of n x < n
  live = (widest-found x n some).live

  room : widest_of n x < length x
  room = omega (arith, live, size, box.places)

  pub low-in : BoxIn n (side_at (low_half n x))
  unfolding low_half
  low-in = put_in x (widest_of n x) room _ box (low_fits (widest-in x n some box))

  pub high-in : BoxIn n (side_at (high_half n x))
  unfolding high_half
  high-in = put_in x (widest_of n x) room _ box (high_fits (widest-in x n some box))

  pub halves-hold : {P : ℕ → ℤ} {d : ℤ} → InBox n P d (side_at x)
      → InBox n P d (side_at (low_half n x)) ⊎ InBox n P d (side_at (high_half n x))
  unfolding low_half high_half
  halves-hold p =
      ⊎_elim (λ h. inl (put_holds x (widest_of n x) room _ p h)) (λ h. inr (put_holds x (widest_of n x) room _ p h))
      (in_either (p.each (widest_of n x) live))

pub low-length : (n : ℕ) (x : List Interval) → length x ≡ n_max → length (low_half n x) ≡ n_max
unfolding low_half
low-length n x e = length-set x (widest_of n x) _ ∙ e

pub high-length : (n : ℕ) (x : List Interval) → length x ≡ n_max → length (high_half n x) ≡ n_max
unfolding high_half
high-length n x e = length-set x (widest_of n x) _ ∙ e
