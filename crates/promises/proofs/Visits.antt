-- The visit of a result: of a run, of a check, in a text.
use Prim.Native.Nat.{ℕ, ◌≤◌, ◌<◌}
use mathlib.Core.Path.{◌≡◌, refl}
use mathlib.Core.Logic.{◌↔◌}
use borrow.Author.Tests.{le-leb, lt-leb, leb-true}
use Rattle.sizes.specs.Sizes.{number_max, visit_max}
use Rattle.faults.specs.declared.Fault.{Fault}
use Rattle.faults.specs.Checked.{Status, refused}
use Rattle.faults.specs.Checks.{bad_unless, on_line, and_then}
use Rattle.faults.proofs.Laws.{unless-fine, fine-unless}
use Rattle.jobs.specs.declared.Job.{Job}
use Rattle.jobs.specs.declared.Result.{Result}
use Rattle.checks.specs.Checks.{number_check, check_job}
use Rattle.checks.specs.Answered.{result_in}
use Rattle.checks.specs.CheckResult.{visit_check, result_check, result_line_status, check_result}
use Rattle.run.specs.Job.{result_of, answer_by, run_job}
use Rattle.std.specs.Prelude.{Ok, Err}

pub alone : (j : Job) → (result_in (run_job j)).visit ≡ 0
unfolding run_job result_of and_then
alone j = go (check_job j)
  where
    go : (st : Status) → (result_in (answer_by st j)).visit ≡ 0
    go (Ok u) = refl
    go (Err r) = refl

pub fine-exactly : (v : ℕ) → (visit_check v ≡ Ok tt) ↔ (v ≤ visit_max)
unfolding visit_check
fine-exactly v =
    (λ e. leb-true v visit_max (unless-fine _ Fault.Beyond e), λ h. fine-unless Fault.Beyond (le-leb v visit_max h))

pub beyond : (r : Result) → r.number ≤ number_max → visit_max < r.visit
    → check_result r ≡ refused Fault.Beyond 2
unfolding check_result result_line_status result_check visit_check number_check bad_unless on_line and_then
beyond r h far = rw (le-leb r.number number_max h, lt-leb r.visit visit_max far)
