-- Request P7, "Show the image before it is used". Only statements, each proved by one line from the files beside this
-- one. `gives_image` and `gives_move` are what the two public operations answer (one_step, specs/OneStep).
use mathlib.Core.Path.{◌≡◌}
use mathlib.Core.List.{List}
use mathlib.Core.Logic.{◌↔◌}
use Prim.Native.Nat.{ℕ, ◌≤◌}
use lib.ListN.{length}
use Rattle.sizes.specs.Sizes.{text_max, steps_max}
use Rattle.intervals.specs.declared.Interval.{Interval}
use Rattle.intervals.specs.Places.{side_at}
use Rattle.jobs.specs.declared.Ends.{Ends}
use Rattle.jobs.specs.declared.Job.{Job}
use Rattle.faults.specs.Checks.{first_of}
use Rattle.checks.specs.Checks.{low_check, high_check, check_job}
use Rattle.checks.specs.CheckResult.{check_result}
use Rattle.systems.specs.Kinds.{equation_of}
use Rattle.step.specs.declared.Move.{Move}
use Rattle.step.specs.declared.Decision.{Decision}
use Rattle.step.specs.Step.{image_box}
use Rattle.step.specs.Decide.{step_of}
use Rattle.step.specs.Meanings.{Empty, Strictly, Unchanged}
use Rattle.step.specs.Values.{box_of, ends_of, inverse_of}
use Rattle.one_step.specs.OneStep.{box_check, image_check, decide_check, gives_image, move_to, gives_move}
use Rattle.one_step.proofs.Given as given
use Rattle.run.specs.Job.{run_from, result_of, run_job}
use Rattle.result_form.specs.ResultShows.{show_result}
use Rattle.promises.specs.ByTwo.{run_by_two}
use Rattle.promises.proofs.ByTwo as two
use Rattle.runs.proofs.Results as runs
use Rattle.promises.proofs.Results as results
use Rattle.std.specs.Prelude.{Ok}
use Rattle.one_step.specs.OneStep.{image_in, decided_in}

module _ (j : Job) (checked : check_job j ≡ Ok tt) where
  -- the image of the box X, and the step on it, as every run has them
  abbrev image_on : List Interval → List Interval
  image_on = image_box j.head.n (equation_of j) (inverse_of j)

  abbrev step_on : List Interval → Decision
  step_on = step_of j.head.n (equation_of j) (inverse_of j)

  -- a box in which nothing is found
  module _ (x : Ends) (right : box_check j.head.n x ≡ Ok tt) where
    abbrev X : List Interval
    X = box_of j.head.n x

    -- "one operation gives K for a job and a box,"
    pub image : gives_image j x ≡ Ok (ends_of j.head.n (image_on X))
    image = two.image-is j checked x right

    -- every image of an accepted job and a right box is taken by the second operation,
    pub image-taken : image_check j.head.n (image_in (gives_image j x)) ≡ Ok tt
    image-taken = two.image-fine j checked x right

    -- "the other takes X and K and gives the verdict or the next box": together they are the step
    pub step : gives_move j.head.n x (image_in (gives_image j x)) ≡ Ok (move_to j.head.n (step_on X))
    step = two.moved_given j checked x right

    -- "The run and every other caller go through the two.": from any right box, with any allowance
    pub run-through : (a : ℕ) → run_from j X a ≡ run_by_two j a 0 x
    run-through a = two.run-given j checked a 0 x right

    -- the result of such a run has no fault and can be written
    pub run_sound : (a : ℕ) → a ≤ steps_max → check_result (result_of j (run_from j X a)) ≡ Ok tt
    run_sound = runs.from-checked j checked X (two.box-right j checked x right)

    pub run_short : (a : ℕ) → a ≤ steps_max → length (show_result (result_of j (run_from j X a))) ≤ text_max
    run_short = results.from-short j checked X (two.box-right j checked x right)

  -- and so does the public entry, from the job's own box with its own allowance
  pub entry-through : run_job j
      ≡ Ok (result_of j (run_by_two j j.steps 0 j.ends))
  entry-through = two.entry-given j checked

-- "A box handed in is checked like a job's lo and hi,": by the very checks of these lines
pub checked-alike : (n : ℕ) (x : Ends) → box_check n x ≡ first_of (low_check n x.lo) (high_check n x.lo x.hi)
checked-alike = given.box-alike

-- "K cut with X, the order of the three tests .. stay as they are": of any X and K that are taken, each verdict comes
-- exactly where document 01 says
module _ (n : ℕ) (x k : Ends) (taken : decide_check n x k ≡ Ok tt) where
  abbrev side : Ends → ℕ → Interval
  side e = side_at (box_of n e)

  pub none-exactly : ((decided_in (gives_move n x k)).what ≡ Move.None) ↔ Empty n (side x) (side k)
  none-exactly = two.none-exactly n x k taken

  pub unique-exactly : ((decided_in (gives_move n x k)).what ≡ Move.Unique) ↔ Strictly n (side x) (side k)
  unique-exactly = two.unique-exactly n x k taken

  pub stalled-exactly : ((decided_in (gives_move n x k)).what ≡ Move.Stalled) ↔ Unchanged n (side x) (side k)
  stalled-exactly = two.stalled-exactly n x k taken
