-- `desk::rewrite_job` meets its contract.
use Rattle.std.proofs.lemmas.Result.{err_from_is_err_and}
use Rattle.faults.specs.Checks.{and_then}
use Rattle.faults.proofs.Answer.{values-bad}
use Rattle.desk.specs.Desk.{job_status, job_text}
use Rattle.desk.proofs.Answer.{written-as}
use Rattle.desk.proofs.Taken.{job-taken}
use Rattle.desk.proofs.rewrite_job.Goals as goal

pub returns-in_err-read_job : goal.returns-in_err-read_job
unfolding job_status job_text and_then
returns-in_err-read_job c =
    let p = err_from_is_err_and c.from_residual.result c.from_residual.ensures.1 in
    rw (p.1, p.2) (written-as c.in_err-read_job.ensures (values-bad _ _ _))

pub write_ready-requires : goal.write_ready-requires
write_ready-requires c = job-taken _ c.in_ok-read_job.ensures

pub returns : goal.returns
unfolding job_status job_text and_then
returns c =
    written-as c.in_ok-read_job.ensures (rw (job-taken _ c.in_ok-read_job.ensures) c.write_ready.ensures)
