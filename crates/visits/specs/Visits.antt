-- A visit to a room, by its values: a job, and its reading. Document 02, P12.
use Rattle.std.specs.Prelude.{ℕ, zero, suc, ◌+◌, ◌≤◌, ◌≡◌, Bool, true, cond, leb, Ok}
use Rattle.jobs.specs.declared.Job.{Job}
use Rattle.jobs.specs.declared.Result.{Result}
use Rattle.jobs.specs.declared.Verdict.{Verdict}
use Rattle.checks.specs.Checks.{check_job}
use Rattle.checks.specs.CheckResult.{check_result}
use Rattle.step.specs.Values.{box_of, start_of, low_ends, high_ends}
use Rattle.run.specs.declared.Outcome.{Outcome}
use Rattle.run.specs.Run.{outcome}
use Rattle.run.specs.Job.{run_from, result_of}
use Rattle.result_form.specs.ResultForm.{with_visit}

-- what a run came to, as the reading of a visit
abbrev pub reading_of : ℕ → Job → Outcome → Result
reading_of visit j o = with_visit (result_of j o) visit

-- "A visit not yet decided reads as spent with its steps and box so far": at its opening, none and the starting box
abbrev pub opened_as : ℕ → Job → Result
opened_as visit j = reading_of visit j (outcome Verdict.Spent 0 (start_of j))

-- decided, or its steps are the job's allowance
abbrev pub is_finished : Verdict → ℕ → ℕ → Bool
is_finished Verdict.None steps allowance = true
is_finished Verdict.Unique steps allowance = true
is_finished Verdict.Stalled steps allowance = true
is_finished Verdict.Spent steps allowance = leb allowance steps

-- what a run from the box so far came to
unfoldable pub added : Result → Outcome → Result
added r o = record {
  number = r.number;
  visit = r.visit;
  verdict = o.verdict;
  steps = r.steps + o.steps;
  n = r.n;
  lo = low_ends r.n o.sides;
  hi = high_ends r.n o.sides;
}

-- "a step call moves one visit's job by one step", and "changes nothing on a finished one"
unfoldable pub next_reading : Job → Result → Result
next_reading j r =
    cond (is_finished r.verdict r.steps j.steps) r
    (added r (run_from j (box_of j.head.n (record { lo = r.lo; hi = r.hi })) 1))

-- a right job and a right reading of it
pub record Stands (j : Job) (r : Result) : Type 0 where
  pub job : check_job j ≡ Ok tt
  pub reading : check_result r ≡ Ok tt
  pub number : r.number ≡ j.head.number
  pub same : r.n ≡ j.head.n
  pub steps : r.steps ≤ j.steps

-- so many step calls
unfoldable pub times : ℕ → (Result → Result) → Result → Result
times zero step r = r
times (suc calls) step r = step (times calls step r)
