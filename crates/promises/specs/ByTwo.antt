-- Document 02, P7: "The run and every other caller go through the two." The run of a job from a box of values on, by
-- the two public operations alone.
use Rattle.std.specs.Prelude.{ℕ, zero, suc, ◌+◌}
use Rattle.jobs.specs.declared.Ends.{Ends}
use Rattle.jobs.specs.declared.Job.{Job}
use Rattle.jobs.specs.declared.Verdict.{Verdict}
use Rattle.step.specs.Values.{box_of}
use Rattle.one_step.specs.declared.Decided.{Decided}
use Rattle.one_step.specs.OneStep.{gives_image, image_in, gives_move, decided_in}
use Rattle.run.specs.declared.Outcome.{Outcome}
use Rattle.run.specs.Run.{outcome, settle}

-- K of the job and the box, and what X and K give
abbrev pub step_by_two : Job → Ends → Decided
step_by_two j x = decided_in (gives_move j.head.n x (image_in (gives_image j x)))

-- "If the allowance is used up with none of the three reached, the verdict is spent with the box so far"; "Every step
-- begun is counted"
unfoldable pub run_by_two : Job → ℕ → ℕ → Ends → Outcome
run_by_two j zero done x = outcome Verdict.Spent done (box_of j.head.n x)
run_by_two j (suc allowance) done x =
    settle (step_by_two j x).what (box_of j.head.n (step_by_two j x).ends) (done + 1)
    (λ _. run_by_two j allowance (done + 1) (step_by_two j x).ends)
