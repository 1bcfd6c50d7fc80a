-- The code's lists of an accepted job run as the job does, and what its run answers.
use mathlib.Core.Path.{◌≡◌, refl, sym, ap, ap₂, fun_ext, ◌∙◌}
use mathlib.Core.List.{List}
use Prim.Native.Nat.{ℕ, zero, suc, ◌+◌}
use lib.IntN.{ℤ, pos}
use lib.ListN.{replicate}
use Rattle.sizes.specs.Sizes.{n_max}
use Rattle.lists.specs.Loops.{tab}
use Rattle.intervals.specs.Places.{entry_at}
use Rattle.jobs.specs.Places.{row_at, equation_at}
use Rattle.checks.specs.Checks.{check_job}
use Rattle.systems.specs.Kinds.{equations_of}
use Rattle.intervals.specs.declared.Interval.{Interval}
use Rattle.jobs.specs.declared.Equation.{Equation}
use Rattle.jobs.specs.declared.Job.{Job}
use Rattle.jobs.specs.declared.Result.{Result}
use Rattle.faults.specs.Checks.{and_then}
use Rattle.step.specs.declared.Decision.{Decision}
use Rattle.step.specs.Step.{image_box}
use Rattle.step.specs.Decide.{decide_of, step_of}
use Rattle.step.proofs.Decisions.{step_is}
use Rattle.step.proofs.Given.{image-made}
use Rattle.run.specs.declared.Outcome.{Outcome}
use Rattle.run.specs.Run.{settle, run_of}
use Rattle.run.specs.Job.{run_from, outcome_of, result_of, run_job}
use Rattle.std.specs.Prelude.{Ok}

-- what makes the same image of every box runs alike
module _ (n : ℕ) (q r : ℕ → Equation) (C D : ℕ → ℕ → ℤ)
    (same : (x : List Interval) → image_box n q C x ≡ image_box n r D x) where
  step-cong : (x : List Interval) → step_of n q C x ≡ step_of n r D x
  step-cong x = step_is n q C x ∙ ap (decide_of n x) (same x) ∙ sym (step_is n r D x)

  run-cong : (allowance done : ℕ) (x : List Interval) → run_of n q C allowance done x ≡ run_of n r D allowance done x
  unfolding run_of
  run-cong zero done x = refl
  run-cong (suc allowance) done x =
      ap₂ (λ (d : Decision) (rest : List Interval → Outcome). settle d.what d.sides (done + 1) rest)
      (step-cong x) (fun_ext (run-cong allowance (done + 1)))

pub run-made : (j : Job) → check_job j ≡ Ok tt → {eqs : List Equation} {c : List (List ℤ)} → eqs ≡ equations_of j
    → c ≡ tab n_max j.head.n (replicate n_max (pos 0)) (row_at j.inv) → (x : List Interval) (allowance : ℕ)
    → run_of j.head.n (equation_at eqs) (entry_at c) allowance 0 x ≡ run_from j x allowance
run-made j done made-eqs made-c x allowance =
    run-cong j.head.n _ _ _ _ (image-made j done made-eqs made-c) allowance 0 x

-- what the run of an accepted job answers
pub answer-done : (j : Job) {r : Result} → check_job j ≡ Ok tt → r ≡ result_of j (outcome_of j) → Ok r ≡ run_job j
unfolding run_job and_then
answer-done j e p = rw (e, p)
