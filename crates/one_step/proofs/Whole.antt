-- The two operations make up the step: an image is always taken, and what it decides is the step's decision.
use mathlib.Core.Path.{◌≡◌, refl, sym, ap, ◌∙◌}
use mathlib.Core.List.{List}
use Prim.Native.Nat.{ℕ, ◌<◌}
use lib.IntN.{ℤ}
use lib.Signed.{◌≤ℤ◌}
use Rattle.sizes.specs.Sizes.{end_max, image_max}
use Rattle.sizes.proofs.Sums.{image-room}
use Rattle.intervals.specs.Interval.{cut_i}
use Rattle.intervals.specs.Places.{side_at, vector_of}
use Rattle.intervals.proofs.Places.{side-made}
use Rattle.intervals.proofs.Ranges.{in-more}
use Rattle.faults.proofs.Laws.{both-fine, fine-line, done_next}
use Rattle.checks.specs.Accepted.{Accepted}
use Rattle.checks.proofs.AcceptedLaws.{check-clean, check_done}
use Rattle.systems.specs.Kinds.{equation_of}
use Rattle.systems.proofs.Systems.{system-in}
use Rattle.step.specs.Step.{image_of, image_box}
use Rattle.step.specs.Decide.{cut_box, decide_of, step_of}
use Rattle.step.specs.Values.{side_of, box_of, ends_of, inverse_of}
use Rattle.step.specs.Ranges.{StepIn}
use Rattle.step.proofs.Decisions.{Decided, none, unique, stalled, next, decided, step_is}
use Rattle.step.proofs.Given.{ends_at, box-back, job-in}
use Rattle.step.proofs.Imaged.{image-in}
use Rattle.step.proofs.Keep.{next-in}
use Rattle.intervals.specs.declared.Interval.{Interval}
use Rattle.jobs.specs.declared.Ends.{Ends}
use Rattle.jobs.specs.declared.Equation.{Equation}
use Rattle.jobs.specs.declared.Job.{Job}
use Rattle.step.specs.declared.Move.{Move}
use Rattle.step.specs.declared.Decision.{Decision}
use Rattle.one_step.specs.OneStep.{box_check, image_check, image_status, image_ends, decide_check, move_to, moves_to}
use Rattle.one_step.proofs.Given.{in-ends, job-checked, box-checked}
use Rattle.std.specs.Prelude.{Ok}

module _ (j : Job) (x : Ends) (done : image_status j x ≡ Ok tt) where
  accepted : Accepted j
  accepted = check_done j (job-checked j x done)

  abbrev n : ℕ
  n = j.head.n

  abbrev q : ℕ → Equation
  q = equation_of j

  abbrev C : ℕ → ℕ → ℤ
  C = inverse_of j

  abbrev X : List Interval
  X = box_of n x

  abbrev K : List Interval
  K = image_box n q C X

  step_in : StepIn n q C (side_at X)
  step_in = record {
    system = system-in (job-in accepted);
    inverse = record { each = λ i k l m. accepted.inverse i l k m };
    box = box-checked j x done;
  }

  image-at : (k : ℕ) → k < n → side_at K k ≡ image_of n q C (side_at X) k
  unfolding image_box
  image-at = side-made n accepted.few (image_of n q C (side_at X)) refl

  image-order : (k : ℕ) → k < n → (side_at K k).lo ≤ℤ (side_at K k).hi
  image-order k l = rw (image-at k l) (image-in step_in k l).order

  -- every image is one that may be handed in
  pub image-fine : image_check n (image_ends j x) ≡ Ok tt
  unfolding image_ends
  image-fine = in-ends n image_max (ends_of n K) (λ k l.
      rw (ends_at n accepted.few K k l ∙ image-at k l) (in-more image-room (image-in step_in k l)))

  pub image-taken : decide_check n x (image_ends j x) ≡ Ok tt
  unfolding decide_check image_status
  image-taken =
      both-fine (check-clean j (job-checked j x done)).unknowns
      (both-fine (fine-line _ _ (done_next _ _ done)) image-fine)

  -- and decides what the step does
  pub moves-step : moves_to n x (image_ends j x) ≡ move_to n (step_of n q C X)
  unfolding moves_to image_ends image_box
  moves-step =
      ap (λ (k : List Interval). move_to n (decide_of n X k))
      (box-back n accepted.few (image_of n q C (side_at X)) {x = K} refl)
      ∙ ap (move_to n) (sym (step_is n q C X))

  -- the box that it leaves, as values and back
  pub left_back : box_of n (ends_of n (step_of n q C X).sides) ≡ (step_of n q C X).sides
  left_back = rw (step_is n q C X) (by (decided n X K))
    where
      back : (f : ℕ → Interval) (y : List Interval) → y ≡ vector_of n f
          → box_of n (ends_of n y) ≡ y
      back f y e = box-back n accepted.few f e

      start : box_of n (ends_of n X) ≡ X
      start = back (side_of x) X (unfold box_of in refl)

      by : Decided n X K → box_of n (ends_of n (decide_of n X K).sides) ≡ (decide_of n X K).sides
      by (none e m) = rw e start
      by (unique e s) = rw e (back (image_of n q C (side_at X)) K (unfold image_box in refl))
      by (stalled e s) = rw e start
      by (next e m) = rw e (back (λ i. cut_i (side_at X i) (side_at K i)) (cut_box n X K) (unfold cut_box in refl))

  -- and a box that goes on is right again
  pub next-fine : (step_of n q C X).what ≡ Move.Next → box_check n (ends_of n (step_of n q C X).sides) ≡ Ok tt
  next-fine w =
      let moves = sym (ap (λ (d : Decision). d.what) (step_is n q C X)) ∙ w in
      let box = next-in X K (box-checked j x done) image-order moves in
      rw (step_is n q C X) (in-ends n end_max (ends_of n (decide_of n X K).sides) (λ k l.
      rw (ends_at n accepted.few (decide_of n X K).sides k l) (box.each k l)))
