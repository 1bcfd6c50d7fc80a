-- Demand 2, of every accepted job of the three kinds, "whatever inverse was proposed", and of both texts. Only
-- statements, each proved by one line from the files beside this one and the crates of the texts. `job_run j a` is the
-- run of the job j with the allowance a, by the definitions that the contracts cite.
use mathlib.Core.Path.{◌≡◌}
use mathlib.Core.List.{List, ◌++◌}
use mathlib.Core.Logic.{◌↔◌}
use Prim.Native.Nat.{ℕ, ◌+◌, ◌≤◌}
use lib.ListN.{length}
use Rattle.sizes.specs.Sizes.{text_max}
use Rattle.intervals.specs.declared.Interval.{Interval}
use Rattle.jobs.specs.declared.Job.{Job}
use Rattle.jobs.specs.declared.Result.{Result}
use Rattle.faults.specs.declared.Fault.{Fault}
use Rattle.faults.specs.Checked.{refused, status_of}
use Rattle.jobs.specs.declared.Verdict.{Verdict}
use Rattle.checks.specs.Checks.{check_job}
use Rattle.checks.specs.CheckResult.{check_result}
use Rattle.checks.specs.Accepted.{Accepted}
use Rattle.checks.proofs.AcceptedLaws.{check_done}
use Rattle.systems.specs.Kinds.{equation_of}
use Rattle.step.specs.declared.Move.{Move}
use Rattle.step.specs.Step.{image_box}
use Rattle.step.specs.Decide.{step_of}
use Rattle.step.specs.Values.{inverse_of}
use Rattle.run.specs.Run.{outcome}
use Rattle.run.specs.Job.{result_of, run_job}
use Rattle.reading.specs.Refused.{Decides, Refused}
use Rattle.job_form.specs.JobForm.{job_form_of, read_job}
use Rattle.job_form.specs.JobBytes.{job_bytes}
use Rattle.result_form.specs.ResultForm.{result_form_of, read_result}
use Rattle.result_form.specs.ResultShows.{show_result}
use Rattle.promises.specs.Claims.{System, Begins, Reaches, EmptyOn, StrictlyOn, UnchangedOn}
use Rattle.promises.specs.Jobs.{job_run}
use Rattle.promises.proofs.Jobs.{system_of}
use Rattle.job_form.specs.JobBytes as job
use Rattle.job_form.specs.Live as job-live
use Rattle.job_form.proofs.Trips as job-trips
use Rattle.job_form.proofs.Answers as job-text
use Rattle.result_form.specs.ResultShows as result
use Rattle.result_form.proofs.Trips as result-trips
use Rattle.result_form.proofs.Answers as result-text
use Rattle.promises.proofs.Verdicts as verdicts
use Rattle.promises.proofs.Demand3 as demand3
use Rattle.std.specs.Prelude.{Ok}

module _ (j : Job) (checked : check_job j ≡ Ok tt) where
  accepted : Accepted j
  accepted = check_done j checked

  abbrev s : System
  s = system_of j accepted

  -- the image of the box x, and what the step on x decides
  abbrev image : List Interval → List Interval
  image = image_box j.head.n (equation_of j) (inverse_of j)

  abbrev decides : List Interval → Move
  decides x = (step_of j.head.n (equation_of j) (inverse_of j) x).what

  -- what document 01 asks of the box x and its image before "none", "unique" and "stalled"
  abbrev Misses : List Interval → Type 0
  Misses = EmptyOn j.head.n (equation_of j) (inverse_of j)

  abbrev Contains : List Interval → Type 0
  Contains = StrictlyOn j.head.n (equation_of j) (inverse_of j)

  abbrev Stays : List Interval → Type 0
  Stays = UnchangedOn j.head.n (equation_of j) (inverse_of j)

  -- box, verdict and step count are the definitions': the public entry answers the job's run with its own allowance
  -- (`entry` of Demand3: with any)
  pub answers : run_job j ≡ Ok (result_of j (job_run j j.steps))
  answers = demand3.entry j checked j.steps accepted.steps

  -- ""none" comes exactly on an empty intersection,": of every box that a step begins on,
  pub none-step : {t : ℕ} {x : List Interval} → Begins (job_run j) t x → (decides x ≡ Move.None) ↔ Misses x
  none-step {x = x} b = verdicts.step-none s x

  -- and so of the run's answer, which then has that box and counts that step;
  pub none-exactly : (a : ℕ) → ((job_run j a).verdict ≡ Verdict.None) ↔ Reaches (job_run j) a Misses
  none-exactly = verdicts.none-reached s

  pub none-answer : (a : ℕ) (r : Reaches (job_run j) a Misses) → job_run j a ≡ outcome Verdict.None (r.t + 1) r.x
  none-answer = verdicts.none-answer s

  -- ""unique" exactly when the image lies strictly inside,": the same, and the answer's box is the image
  pub unique-step : {t : ℕ} {x : List Interval} → Begins (job_run j) t x → (decides x ≡ Move.Unique) ↔ Contains x
  unique-step b = verdicts.step-unique s b

  pub unique-exactly : (a : ℕ) → ((job_run j a).verdict ≡ Verdict.Unique) ↔ Reaches (job_run j) a Contains
  unique-exactly = verdicts.unique-reached s

  pub unique-answer : (a : ℕ) (r : Reaches (job_run j) a Contains)
      → job_run j a ≡ outcome Verdict.Unique (r.t + 1) (image r.x)
  unique-answer = verdicts.unique-answer s

  -- "K cut with X is X itself: verdict stalled, box X"
  pub stalled-step : {t : ℕ} {x : List Interval} → Begins (job_run j) t x → (decides x ≡ Move.Stalled) ↔ Stays x
  stalled-step b = verdicts.step-stalled s accepted.some b

  pub stalled-exactly : (a : ℕ) → ((job_run j a).verdict ≡ Verdict.Stalled) ↔ Reaches (job_run j) a Stays
  stalled-exactly = verdicts.stalled-reached s accepted.some

  pub stalled-answer : (a : ℕ) (r : Reaches (job_run j) a Stays) → job_run j a ≡ outcome Verdict.Stalled (r.t + 1) r.x
  stalled-answer = verdicts.stalled-answer s accepted.some

  -- "If the allowance is used up with none of the three reached, the verdict is spent with the box so far", and the
  -- whole allowance is counted.
  pub spent-exactly : (a : ℕ) → ((job_run j a).verdict ≡ Verdict.Spent)
      ↔ ((Reaches (job_run j) a Misses → ⊥) × ((Reaches (job_run j) a Contains → ⊥)
      × (Reaches (job_run j) a Stays → ⊥)))
  spent-exactly = verdicts.spent-reached s accepted.some

  pub spent-answer : (a : ℕ) → (job_run j a).verdict ≡ Verdict.Spent → Begins (job_run j) a (job_run j a).sides
  spent-answer = verdicts.spent-begins s

  -- "Values to text to values gives the same values in the live places", of a job
  pub job-values-back : read_job (job_bytes j) ≡ Ok (job-live.live j)
  job-values-back = job-trips.read-write j checked

-- and of a result
pub result-values-back : (r : Result) → check_result r ≡ Ok tt
    → read_result (show_result r) ≡ Ok (result.live r)
result-values-back = result-trips.read-write

-- "Text to values to text gives the same bytes."
pub job-text-back : (t : List ℕ) (j : Job) → read_job t ≡ Ok j → job_bytes j ≡ t
job-text-back t j e = ((job-text.exactly t j).0 e).0

pub result-text-back : (t : List ℕ) (r : Result) → read_result t ≡ Ok r
    → show_result r ≡ t
result-text-back t r e = ((result-text.exactly t r).0 e).0

-- And no other text is read: one is read without a fault exactly when it is the bytes of values without a fault, with
-- zeros in the dead places.
pub job-text-exactly : (t : List ℕ) (j : Job)
    → (read_job t ≡ Ok j)
    ↔ ((job_bytes j ≡ t) × (check_job j ≡ Ok tt) × (job-live.live j ≡ j))
job-text-exactly = job-text.exactly

pub result-text-exactly : (t : List ℕ) (r : Result)
    → (read_result t ≡ Ok r)
    ↔ ((show_result r ≡ t) × (check_result r ≡ Ok tt) × (result.live r ≡ r))
result-text-exactly = result-text.exactly

-- "Values handed over without text get the same checks in the same line order": values that can be spelled have the
-- fault of their text, under the same line
pub job-same-order : (j : Job) → job.Spelled j → length (job_bytes j) ≤ text_max
    → status_of (read_job (job_bytes j)) ≡ check_job j
job-same-order = job-text.same-order

pub result-same-order : (r : Result) → result.Spelled r → length (show_result r) ≤ text_max
    → status_of (read_result (show_result r)) ≡ check_result r
result-same-order = result-text.same-order

-- "lines are taken in order and the first bad line decides": a text that is not too long has a fault exactly where
-- lines that are read without one stand first and the next line is bad, whatever follows;
pub job-first-bad : (t : List ℕ) (f : Fault) (n : ℕ) → length t ≤ text_max
    → (status_of (read_job t) ≡ refused f n) ↔ Refused job_form_of t f n
job-first-bad = job-text.first-bad

pub result-first-bad : (t : List ℕ) (f : Fault) (n : ℕ) → length t ≤ text_max
    → (status_of (read_result t) ≡ refused f n) ↔ Refused result_form_of t f n
result-first-bad = result-text.first-bad

-- "its number and a line counted from 1": the bad line is named by its place;
pub job-line-number : (t : List ℕ) (f : Fault) (n : ℕ) (r : Refused job_form_of t f n) → n ≡ length r.before + 1
job-line-number = job-text.line-number

pub result-line-number : (t : List ℕ) (f : Fault) (n : ℕ) (r : Refused result_form_of t f n) → n ≡ length r.before + 1
result-line-number = result-text.line-number

-- and what a text's first bytes have decided stays so, whatever bytes come after them, with no value beside the fault
pub job-decided : (a b : List ℕ) (f : Fault) (n : ℕ) → Decides job_form_of a f n → length (a ++ b) ≤ text_max
    → read_job (a ++ b) ≡ refused f n
job-decided = job-text.decided

pub result-decided : (a b : List ℕ) (f : Fault) (n : ℕ) → Decides result_form_of a f n → length (a ++ b) ≤ text_max
    → read_result (a ++ b) ≡ refused f n
result-decided = result-text.decided
