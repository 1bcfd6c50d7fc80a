-- Every text that is read without a fault is answered: the desk has no faults but those of the text, and fault 7 for a
-- buffer that is too short. A text written again is the same bytes, and no answer is longer than a text may be.
use Prim.Native.Nat.{ℕ, ◌≤◌}
use native.Mathlib.Nat.{le_trans}
use mathlib.Core.Path.{◌≡◌, refl}
use mathlib.Core.List.{List}
use lib.ListN.{length}
use borrow.Author.Tests.{le-ltb}
use Rattle.sizes.specs.Sizes.{text_max}
use Rattle.faults.specs.Checks.{and_then}
use Rattle.faults.specs.Answer.{answer_of}
use Rattle.faults.specs.Checked.{Status, status_of}
use Rattle.faults.proofs.Laws.{both-done}
use Rattle.checks.specs.Answered.{job_in, result_in}
use Rattle.checks.proofs.CheckResultLaws.{sound}
use Rattle.job_form.specs.JobForm.{read_job}
use Rattle.job_form.proofs.Trips as job-trips
use Rattle.job_form.proofs.Answers as job
use Rattle.result_form.specs.ResultForm.{read_result}
use Rattle.result_form.proofs.Trips as result-trips
use Rattle.result_form.proofs.Answers as result
use Rattle.desk.specs.Desk.{job_status, job_text, result_status, result_text, run_status, run_text, solve_status}
use Rattle.desk.specs.Desk.{solve_text}
use Rattle.runs.proofs.Results.{run-done, run-checked}
use Rattle.promises.proofs.Results.{run_short}
use Rattle.std.specs.Prelude.{Ok, Err}

-- what follows a reading without a fault has none
first-only : (st next : Status) → (st ≡ Ok tt → next ≡ Ok tt) → and_then st next ≡ st
unfolding and_then
first-only (Ok tt) next h = h refl
first-only (Err r) next h = refl

-- "the written text is longer than the lent buffer": else a writer's status is that of the values
long-enough : (st : Status) (t old : List ℕ) → (st ≡ Ok tt → length t ≤ length old)
    → status_of (answer_of st old t) ≡ st
unfolding answer_of
long-enough (Ok tt) t old h = rw (le-ltb (length old) (length t) (h refl)) refl
long-enough (Err r) t old h = refl

module _ (t : List ℕ) where
  pub job-status : job_status t ≡ status_of (read_job t)
  unfolding job_status
  job-status = first-only (status_of (read_job t)) _ (job.read-checked t)

  pub job-same : status_of (read_job t) ≡ Ok tt → job_text t ≡ t
  unfolding job_text
  job-same = job.read_same t

  job-short : status_of (read_job t) ≡ Ok tt → length (job_text t) ≤ text_max
  unfolding job_text
  job-short e = job-trips.job-short (job_in (read_job t)) (job.read-checked t e)

  pub result-status : result_status t ≡ status_of (read_result t)
  unfolding result_status
  result-status = first-only (status_of (read_result t)) _ (result.read-checked t)

  pub result-same : status_of (read_result t) ≡ Ok tt → result_text t ≡ t
  unfolding result_text
  result-same = result.read_same t

  result-short : status_of (read_result t) ≡ Ok tt → length (result_text t) ≤ text_max
  unfolding result_text
  result-short e =
      result-trips.result-short (result_in (read_result t)) (sound (result_in (read_result t)) (result.read-checked t e)).few

  pub solve-status : solve_status t ≡ status_of (read_job t)
  unfolding solve_status run_status
  solve-status =
      first-only (status_of (read_job t)) _
      (λ e. let checked = job.read-checked t e in
      both-done (run-done (job_in (read_job t)) checked) (run-checked (job_in (read_job t)) checked))

  solve-short : status_of (read_job t) ≡ Ok tt → length (solve_text t) ≤ text_max
  unfolding solve_text run_text
  solve-short e = run_short (job_in (read_job t)) (job.read-checked t e)

  -- a buffer of as many bytes as a text may have is never too short
  module _ (old : List ℕ) (room : text_max ≤ length old) where
    pub job-fits : status_of (answer_of (job_status t) old (job_text t)) ≡ status_of (read_job t)
    job-fits = rw job-status (long-enough _ _ old (λ e. le_trans (job-short e) room))

    pub result_fits : status_of (answer_of (result_status t) old (result_text t)) ≡ status_of (read_result t)
    result_fits = rw result-status (long-enough _ _ old (λ e. le_trans (result-short e) room))

    pub solve-fits : status_of (answer_of (solve_status t) old (solve_text t)) ≡ status_of (read_job t)
    solve-fits = rw solve-status (long-enough _ _ old (λ e. le_trans (solve-short e) room))
