-- What the checks of boxes say of their sides, and the other way round.
use mathlib.Core.Path.{◌≡◌, refl}
use Prim.Native.Nat.{ℕ, ◌≤◌, ◌<◌}
use lib.IntN.{pos}
use lib.Signed.{◌≤ℤ◌}
use Rattle.sizes.specs.Sizes.{n_max, end_max, image_max}
use Rattle.intervals.specs.Ranges.{InI}
use Rattle.intervals.specs.Places.{side_at}
use Rattle.faults.proofs.Laws.{fine-first, fine-next, both-fine, unless-fine, fine-unless, fine-line, line-fine}
use Rattle.faults.proofs.Laws.{done_first, done_next, status-then}
use Rattle.term_checks.proofs.RangeLaws.{all-within, within_all, all-ordered, ordered-all}
use Rattle.faults.specs.Checks.{first_of, and_then}
use Rattle.checks.specs.Checks.{low_check, high_check, check_job}
use Rattle.checks.proofs.CheckLaws.{unknowns-fine}
use Rattle.slopes.specs.Ranges.{BoxIn}
use Rattle.checks.proofs.AcceptedLaws.{check_done}
use Rattle.step.specs.Values.{side_of, box_of}
use Rattle.step.proofs.Given.{box-at, box_in_lem}
use Rattle.faults.specs.declared.Fault.{Fault}
use Rattle.faults.specs.Checked.{status_of}
use Rattle.jobs.specs.declared.Ends.{Ends}
use Rattle.jobs.specs.declared.Job.{Job}
use Rattle.one_step.specs.OneStep.{ends_check, box_check, image_status, image_ends, gives_image}
use Rattle.one_step.specs.OneStep.{decide_check, decide_status, moves_to, gives_move}
use Rattle.std.specs.Prelude.{Ok}

module _ (n B : ℕ) (e : Ends) where
  pub ends-in : ends_check n (pos B) e ≡ Ok tt → (k : ℕ) → k < n → InI B (side_of e k)
  unfolding ends_check
  ends-in h k l = record {
    order = all-ordered e.lo e.hi n (unless-fine _ Fault.Crossed (fine-next _ _ (fine-next _ _ h))) k l;
    low = all-within e.lo n B (unless-fine _ Fault.Beyond (fine-first _ _ h)) k l;
    high = all-within e.hi n B (unless-fine _ Fault.Beyond (fine-first _ _ (fine-next _ _ h))) k l;
  }

  pub in-ends : ((k : ℕ) → k < n → InI B (side_of e k)) → ends_check n (pos B) e ≡ Ok tt
  unfolding ends_check
  in-ends h =
      both-fine (fine-unless Fault.Beyond (within_all e.lo n B (λ k l. (h k l).low)))
      (both-fine (fine-unless Fault.Beyond (within_all e.hi n B (λ k l. (h k l).high)))
      (fine-unless Fault.Crossed (ordered-all e.lo e.hi n (λ k l. (h k l).order))))

-- a box is checked as the lines lo and hi of a job are
pub box-alike : (n : ℕ) (x : Ends) → box_check n x ≡ first_of (low_check n x.lo) (high_check n x.lo x.hi)
unfolding ends_check low_check high_check
box-alike n x = refl

pub image-status : (j : Job) (x : Ends) → status_of (gives_image j x) ≡ image_status j x
unfolding gives_image
image-status j x = status-then (image_status j x) (image_ends j x)

pub decide-status : (n : ℕ) (x k : Ends) → status_of (gives_move n x k) ≡ decide_status n x k
unfolding gives_move
decide-status n x k = status-then (decide_status n x k) (moves_to n x k)

-- a job and a box in which nothing was found
module _ (j : Job) (x : Ends) (done : image_status j x ≡ Ok tt) where
  pub job-checked : check_job j ≡ Ok tt
  unfolding image_status
  job-checked = done_first _ _ done

  pub box-checked : BoxIn j.head.n (side_at (box_of j.head.n x))
  unfolding image_status
  box-checked = box_in_lem j.head.n (check_done j job-checked).few x
      (ends-in j.head.n end_max x (fine-line _ _ (done_next _ _ done)))

-- a box and an image in which nothing was found: what is decided of them, and that their ends stand in order
module _ (n : ℕ) (x k : Ends) (fine : decide_check n x k ≡ Ok tt) where
  pub some : 1 ≤ n
  unfolding decide_check
  some = (unknowns-fine n (fine-first _ _ fine)).0

  pub few : n ≤ n_max
  unfolding decide_check
  few = (unknowns-fine n (fine-first _ _ fine)).1

  pub moves : gives_move n x k ≡ Ok (moves_to n x k)
  unfolding gives_move and_then
  moves = rw (line-fine 0 fine)

  ordered : (B : ℕ) (e : Ends) → ends_check n (pos B) e ≡ Ok tt → (i : ℕ) → i < n
      → (side_at (box_of n e) i).lo ≤ℤ (side_at (box_of n e) i).hi
  ordered B e h i l = rw (box-at n few e i l) (ends-in n B e h i l).order

  pub box-ordered : (i : ℕ) → i < n → (side_at (box_of n x) i).lo ≤ℤ (side_at (box_of n x) i).hi
  unfolding decide_check
  box-ordered = ordered end_max x (fine-first _ _ (fine-next _ _ fine))

  pub image-ordered : (i : ℕ) → i < n → (side_at (box_of n k) i).lo ≤ℤ (side_at (box_of n k) i).hi
  unfolding decide_check
  image-ordered = ordered image_max k (fine-next _ _ (fine-next _ _ fine))
