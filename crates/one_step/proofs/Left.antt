-- The box that any X and K which are taken leave stays in the image's range.
use mathlib.Core.Path.{◌≡◌, ap}
use mathlib.Core.List.{List}
use Prim.Native.Nat.{ℕ, ◌<◌}
use lib.Dec.{lit≤}
use Rattle.sizes.specs.Sizes.{end_max, image_max}
use Rattle.intervals.specs.Places.{side_at}
use Rattle.intervals.specs.Ranges.{InI}
use Rattle.intervals.proofs.Ranges.{in-more}
use Rattle.faults.proofs.Laws.{fine-first, fine-next}
use Rattle.slopes.specs.Ranges.{BoxIn}
use Rattle.step.specs.Decide.{decide_of}
use Rattle.step.specs.Values.{side_of, box_of}
use Rattle.step.proofs.Decisions.{Decided, none, unique, stalled, next, decided}
use Rattle.step.proofs.Given.{box-at, box_in_lem, ends_at}
use Rattle.step.proofs.Keep.{next-in}
use Rattle.intervals.specs.declared.Interval.{Interval}
use Rattle.jobs.specs.declared.Ends.{Ends}
use Rattle.step.specs.declared.Decision.{Decision}
use Rattle.one_step.specs.OneStep.{decide_check, moves_to}
use Rattle.one_step.proofs.Given.{ends-in, few}
use Rattle.std.specs.Prelude.{Ok}

module _ (n : ℕ) (x k : Ends) (fine : decide_check n x k ≡ Ok tt) where
  abbrev X : List Interval
  X = box_of n x

  abbrev K : List Interval
  K = box_of n k

  box-is : BoxIn n (side_at X)
  unfolding decide_check
  box-is = box_in_lem n (few n x k fine) x (ends-in n end_max x (fine-first _ _ (fine-next _ _ fine)))

  image-is : (i : ℕ) → i < n → InI image_max (side_at K i)
  unfolding decide_check
  image-is i l =
      rw (box-at n (few n x k fine) k i l) (ends-in n image_max k (fine-next _ _ (fine-next _ _ fine)) i l)

  wider : (i : ℕ) → i < n → InI image_max (side_at X i)
  wider i l = in-more (lit≤ tt) (box-is.each i l)

  sides-in : (i : ℕ) → i < n → InI image_max (side_at (decide_of n X K).sides i)
  sides-in = by (decided n X K)
    where
      by : Decided n X K → (i : ℕ) → i < n → InI image_max (side_at (decide_of n X K).sides i)
      by (none e m) i l = rw e (wider i l)
      by (unique e s) i l = rw e (image-is i l)
      by (stalled e s) i l = rw e (wider i l)
      by (next e m) i l =
          in-more (lit≤ tt)
          ((next-in X K box-is (λ i l. (image-is i l).order) (ap (λ (d : Decision). d.what) e)).each i l)

  pub moved_in : (i : ℕ) → i < n → InI image_max (side_of (moves_to n x k).ends i)
  unfolding moves_to
  moved_in i l = rw (ends_at n (few n x k fine) (decide_of n X K).sides i l) (sides-in i l)
