-- `job_write::write_job` meets its contract.
use mathlib.Core.Path.{sym, ◌∙◌}
use Rattle.std.proofs.lemmas.Result.{err_from_is_err_and}
use Rattle.faults.proofs.Answer.{values-bad}
use Rattle.job_form.specs.JobBytes.{job_bytes}
use Rattle.job_write.proofs.write_job.Goals as goal

pub returns-in_err-check_job : goal.returns-in_err-check_job
returns-in_err-check_job c =
    let args = c.args in
    let p = err_from_is_err_and c.from_residual.result c.from_residual.ensures.1 in
    rw (sym c.check_job.ensures ∙ c.in_err-check_job.was, p.1, p.2) (values-bad (job_bytes args.j) args.out.now _)
