-- A box that goes on lies in the one before it, so it stays in range.
use mathlib.Core.Path.{◌≡◌}
use mathlib.Core.Bool.{true}
use mathlib.Core.List.{List}
use Prim.Native.Nat.{ℕ, ◌<◌}
use lib.Signed.{◌≤ℤ◌}
use Rattle.sizes.specs.Sizes.{n_max}
use Rattle.lists.proofs.All.{all-each}
use Rattle.lists.proofs.Tab.{get_or-tab}
use Rattle.intervals.specs.Interval.{zero_i}
use Rattle.intervals.specs.Places.{side_at}
use Rattle.intervals.proofs.Ranges.{in_cut}
use Rattle.slopes.specs.Ranges.{BoxIn}
use Rattle.intervals.specs.declared.Interval.{Interval}
use Rattle.step.specs.declared.Move.{Move}
use Rattle.step.specs.Decide.{all_meet, cut_box, decide_of}
use Rattle.step.proofs.Decisions.{zero_one, Decided, none, unique, stalled, next, decided}

module _ {n : ℕ} (x k : List Interval) (box : BoxIn n (side_at x))
    (order : (i : ℕ) → i < n → (side_at k i).lo ≤ℤ (side_at k i).hi) where
  cut_in : all_meet n x k ≡ true → BoxIn n (side_at (cut_box n x k))
  unfolding all_meet cut_box
  cut_in h = record {
    places = box.places;
    each = λ i l.
        rw (get_or-tab zero_i n_max n _ zero_i i l box.places) (in_cut (box.each i l) (order i l) (all-each _ n i l h));
  }

  pub next-in : (decide_of n x k).what ≡ Move.Next → BoxIn n (side_at (decide_of n x k).sides)
  next-in = by (decided n x k)
    where
      by : Decided n x k → (decide_of n x k).what ≡ Move.Next → BoxIn n (side_at (decide_of n x k).sides)
      by (none e m) w = rw e box
      by (unique e s) w = absurd (zero_one (cc))
      by (stalled e s) w = rw e box
      by (next e m) w = rw e (cut_in m)
