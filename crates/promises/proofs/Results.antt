-- The text of a run's result is no longer than a text may be, from whatever box in range it began.
use Prim.Native.Nat.{ℕ, ◌≤◌}
use mathlib.Core.Path.{◌≡◌}
use mathlib.Core.List.{List}
use lib.ListN.{length}
use Rattle.checks.specs.Answered.{result_in}
use Rattle.sizes.specs.Sizes.{text_max, steps_max}
use Rattle.intervals.specs.Places.{side_at}
use Rattle.intervals.specs.declared.Interval.{Interval}
use Rattle.jobs.specs.declared.Job.{Job}
use Rattle.jobs.specs.declared.Result.{Result}
use Rattle.checks.specs.Checks.{check_job}
use Rattle.checks.specs.CheckResult.{check_result}
use Rattle.checks.proofs.CheckResultLaws.{sound}
use Rattle.slopes.specs.Ranges.{BoxIn}
use Rattle.run.specs.Job.{run_from, result_of, run_job}
use Rattle.runs.proofs.Results.{from-checked, run-checked}
use Rattle.result_form.specs.ResultShows.{show_result}
use Rattle.result_form.proofs.Trips.{result-short}
use Rattle.std.specs.Prelude.{Ok}

checked-short : (r : Result) → check_result r ≡ Ok tt → length (show_result r) ≤ text_max
checked-short r e = result-short r (sound r e).few

module _ (j : Job) (checked : check_job j ≡ Ok tt) where
  pub from-short : (x : List Interval) → BoxIn j.head.n (side_at x) → (a : ℕ) → a ≤ steps_max
      → length (show_result (result_of j (run_from j x a))) ≤ text_max
  from-short x box a few = checked-short _ (from-checked j checked x box a few)

  pub run_short : length (show_result (result_in (run_job j))) ≤ text_max
  run_short = checked-short _ (run-checked j checked)
