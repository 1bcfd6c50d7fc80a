-- The run of an accepted job goes through the two public operations, whatever right box it begins on.
use mathlib.Core.Path.{◌≡◌, refl, sym, ap, ◌∙◌}
use mathlib.Core.List.{List}
use mathlib.Core.Logic.{◌↔◌}
use Prim.Native.Nat.{ℕ, zero, suc, ◌+◌}
use Rattle.sizes.specs.Sizes.{end_max}
use Rattle.intervals.specs.declared.Interval.{Interval}
use Rattle.intervals.specs.Places.{side_at}
use Rattle.faults.specs.Checked.{Checked}
use Rattle.faults.specs.Checks.{and_then}
use Rattle.faults.proofs.Laws.{line-fine, both-done}
use Rattle.jobs.specs.declared.Ends.{Ends}
use Rattle.jobs.specs.declared.Job.{Job}
use Rattle.checks.specs.Checks.{check_job}
use Rattle.checks.proofs.AcceptedLaws.{check_done}
use Rattle.systems.specs.Kinds.{equation_of}
use Rattle.slopes.specs.Ranges.{BoxIn}
use Rattle.step.specs.declared.Move.{Move}
use Rattle.step.specs.declared.Decision.{Decision}
use Rattle.step.specs.Step.{image_box}
use Rattle.step.specs.Decide.{decide_of, step_of}
use Rattle.step.specs.Meanings.{Empty, Strictly, Unchanged}
use Rattle.step.specs.Values.{box_of, ends_of, inverse_of}
use Rattle.step.proofs.Exactly as exactly
use Rattle.one_step.specs.declared.Decided.{Decided}
use Rattle.one_step.specs.OneStep.{box_check, image_check, image_status, image_ends, gives_image, image_in}
use Rattle.one_step.specs.OneStep.{decide_check, move_to, moves_to, gives_move, decided_in}
use Rattle.one_step.proofs.Given.{in-ends, box-checked, some, moves, box-ordered, image-ordered}
use Rattle.one_step.proofs.Whole.{image-taken, moves-step, left_back, next-fine}
use Rattle.one_step.proofs.Whole as whole
use Rattle.run.specs.declared.Outcome.{Outcome}
use Rattle.run.specs.Run.{settle, run_of}
use Rattle.run.specs.Job.{outcome_of, result_of, run_job}
use Rattle.promises.specs.ByTwo.{step_by_two, run_by_two}
use Rattle.std.specs.Prelude.{Ok}

module _ (j : Job) (checked : check_job j ≡ Ok tt) where
  abbrev step : Ends → Decision
  step x = step_of j.head.n (equation_of j) (inverse_of j) (box_of j.head.n x)

  module _ (x : Ends) (right : box_check j.head.n x ≡ Ok tt) where
    both_right : image_status j x ≡ Ok tt
    unfolding image_status
    both_right = both-done checked (line-fine 0 right)

    image-given : gives_image j x ≡ Ok (image_ends j x)
    unfolding gives_image and_then
    image-given = rw both_right

    pub image-is : gives_image j x
        ≡ Ok (ends_of j.head.n (image_box j.head.n (equation_of j) (inverse_of j) (box_of j.head.n x)))
    unfolding image_ends
    image-is = image-given

    pub image-fine : image_check j.head.n (image_in (gives_image j x)) ≡ Ok tt
    image-fine = rw image-given (whole.image-fine j x both_right)

    pub box-right : BoxIn j.head.n (side_at (box_of j.head.n x))
    box-right = box-checked j x both_right

    -- the decision of the image is the step's
    pub moved_given : gives_move j.head.n x (image_in (gives_image j x)) ≡ Ok (move_to j.head.n (step x))
    unfolding gives_move and_then
    moved_given = rw (image-given, line-fine 0 (image-taken j x both_right), moves-step j x both_right)

    pub step_given : step_by_two j x ≡ move_to j.head.n (step x)
    step_given = ap decided_in moved_given

    left-given : box_of j.head.n (step_by_two j x).ends ≡ (step x).sides
    left-given = rw step_given (left_back j x both_right)

    next-given : (step_by_two j x).what ≡ Move.Next → box_check j.head.n (step_by_two j x).ends ≡ Ok tt
    next-given w = rw step_given (next-fine j x both_right (sym (ap (λ (d : Decided). d.what) step_given) ∙ w))

  -- what comes after a step counts where it goes on
  settle-next : (m : Move) (y : List Interval) (t : ℕ) (f g : List Interval → Outcome) → (m ≡ Move.Next → f y ≡ g y)
      → settle m y t f ≡ settle m y t g
  settle-next Move.None y t f g h = refl
  settle-next Move.Unique y t f g h = refl
  settle-next Move.Stalled y t f g h = refl
  settle-next Move.Next y t f g h = h refl

  pub run-given : (a done : ℕ) (x : Ends) → box_check j.head.n x ≡ Ok tt
      → run_of j.head.n (equation_of j) (inverse_of j) a done (box_of j.head.n x) ≡ run_by_two j a done x
  unfolding run_of run_by_two
  run-given zero done x right = refl
  run-given (suc a) done x right =
      let d = step_by_two j x in
      let what = ap (λ (d : Decided). d.what) (step_given x right) in
      rw (← left-given x right, ← what)
      (settle-next d.what (box_of j.head.n d.ends) (done + 1)
      (run_of j.head.n (equation_of j) (inverse_of j) a (done + 1)) (λ _. run_by_two j a (done + 1) d.ends)
      (λ next. run-given a (done + 1) d.ends (next-given x right next)))

  pub entry-given : run_job j ≡ Ok (result_of j (run_by_two j j.steps 0 j.ends))
  unfolding run_job outcome_of and_then
  entry-given = rw (checked, ← run-given j.steps 0 j.ends own) refl
    where
      own : box_check j.head.n j.ends ≡ Ok tt
      own =
          let a = check_done j checked in
          in-ends j.head.n end_max j.ends
          (λ k l. record { order = a.ordered k l; low = a.low k l; high = a.high k l })

-- what any X and K that are taken decide
module _ (n : ℕ) (x k : Ends) (taken : decide_check n x k ≡ Ok tt) where
  what-is : (decided_in (gives_move n x k)).what ≡ (decide_of n (box_of n x) (box_of n k)).what
  unfolding moves_to
  what-is = ap (λ (d : Checked Decided). (decided_in d).what) (moves n x k taken)

  pub none-exactly : ((decided_in (gives_move n x k)).what ≡ Move.None) ↔ Empty n (side_at (box_of n x))
      (side_at (box_of n k))
  none-exactly = rw what-is (exactly.none-exactly n (box_of n x) (box_of n k))

  pub unique-exactly : ((decided_in (gives_move n x k)).what ≡ Move.Unique) ↔ Strictly n (side_at (box_of n x))
      (side_at (box_of n k))
  unique-exactly = rw what-is (exactly.unique-exactly n (box_of n x) (box_of n k) (image-ordered n x k taken))

  pub stalled-exactly : ((decided_in (gives_move n x k)).what ≡ Move.Stalled) ↔ Unchanged n (side_at (box_of n x))
      (side_at (box_of n k))
  stalled-exactly =
      rw what-is
      (exactly.stalled-exactly n (box_of n x) (box_of n k) (some n x k taken) (box-ordered n x k taken))
