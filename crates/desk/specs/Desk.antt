-- What the desk makes of a text. A fault "writes nowhere", so that each entry has a status and the bytes that are
-- written where it is no fault.
use Rattle.std.specs.Prelude.{ℕ, List}
use Rattle.faults.specs.Checks.{and_then}
use Rattle.checks.specs.Answered.{job_in, result_in}
use Rattle.checks.specs.Checks.{check_job}
use Rattle.checks.specs.CheckResult.{check_result}
use Rattle.result_form.specs.ResultForm.{read_result}
use Rattle.result_form.specs.ResultShows.{show_result}
use Rattle.job_form.specs.JobForm.{read_job}
use Rattle.job_form.specs.JobBytes.{job_bytes}
use Rattle.run.specs.Job.{run_job}
use Rattle.faults.specs.Checked.{Status, Checked, status_of}
use Rattle.jobs.specs.declared.Job.{Job}

-- what a job's reader answers is written
abbrev pub written_status : Checked Job → Status
written_status r = and_then (status_of r) (check_job (job_in r))

abbrev pub written_text : Checked Job → List ℕ
written_text r = job_bytes (job_in r)

-- a job text is read and written again
unfoldable pub job_status : List ℕ → Status
job_status t = written_status (read_job t)

unfoldable pub job_text : List ℕ → List ℕ
job_text t = written_text (read_job t)

-- a result text is read and written again
unfoldable pub result_status : List ℕ → Status
result_status t = and_then (status_of (read_result t)) (check_result (result_in (read_result t)))

unfoldable pub result_text : List ℕ → List ℕ
result_text t = show_result (result_in (read_result t))

-- a job is run, and its result written
unfoldable pub run_status : Job → Status
run_status j = and_then (status_of (run_job j)) (check_result (result_in (run_job j)))

unfoldable pub run_text : Job → List ℕ
run_text j = show_result (result_in (run_job j))

-- what a job's reader answers is run
abbrev pub solved_status : Checked Job → Status
solved_status r = and_then (status_of r) (run_status (job_in r))

abbrev pub solved_text : Checked Job → List ℕ
solved_text r = run_text (job_in r)

-- a job text is read, run and answered
unfoldable pub solve_status : List ℕ → Status
solve_status t = solved_status (read_job t)

unfoldable pub solve_text : List ℕ → List ℕ
solve_text t = solved_text (read_job t)
