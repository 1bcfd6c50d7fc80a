-- Document 01, the run of a job: its values are checked first, and an accepted job answers what its steps give.
use Rattle.std.specs.Prelude.{List, ℕ, Ok}
use Rattle.checks.specs.Checks.{check_job}
use Rattle.systems.specs.Kinds.{equation_of}
use Rattle.intervals.specs.declared.Interval.{Interval}
use Rattle.jobs.specs.declared.Job.{Job}
use Rattle.jobs.specs.declared.Result.{Result}
use Rattle.faults.specs.Checks.{and_then}
use Rattle.faults.specs.Checked.{Checked, Status}
use Rattle.step.specs.Values.{low_ends, high_ends, start_of, inverse_of}
use Rattle.run.specs.declared.Outcome.{Outcome}
use Rattle.run.specs.Run.{run_of}

-- the run of a job from a box on, with an allowance
abbrev pub run_from : Job → List Interval → ℕ → Outcome
run_from j x allowance = run_of j.head.n (equation_of j) (inverse_of j) allowance 0 x

-- "a starting box, .. and a step allowance": its own
unfoldable pub outcome_of : Job → Outcome
outcome_of j = run_from j (start_of j) j.steps

-- "The answer is a box, a verdict and the number of steps done."; the visit is "0 for a job run alone"
unfoldable pub result_of : Job → Outcome → Result
result_of j o = record {
  number = j.head.number;
  visit = 0;
  verdict = o.verdict;
  steps = o.steps;
  n = j.head.n;
  lo = low_ends j.head.n o.sides;
  hi = high_ends j.head.n o.sides;
}

abbrev pub answer_by : Status → Job → Checked Result
answer_by st j = and_then st (Ok (result_of j (outcome_of j)))

-- "Values handed over without text get the same checks in the same line order."
unfoldable pub run_job : Job → Checked Result
run_job j = answer_by (check_job j) j
