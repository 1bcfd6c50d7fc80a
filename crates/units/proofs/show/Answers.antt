-- `units::show` meets its contract.
use Rattle.std.proofs.lemmas.Result.{err_from_is_err_and}
use Rattle.faults.specs.Checks.{and_then}
use Rattle.faults.proofs.Answer.{values-bad}
use Rattle.desk.specs.Desk.{solve_status}
use Rattle.units.specs.Show.{units_text}
use Rattle.units.proofs.show.Goals as goal

pub returns-in_err-read_job : goal.returns-in_err-read_job
unfolding solve_status units_text and_then
returns-in_err-read_job c =
    let p = err_from_is_err_and c.from_residual.result c.from_residual.ensures.1 in
    rw (p.1, p.2, ← c.in_err-read_job.ensures) (values-bad _ _ _)

pub returns : goal.returns
unfolding solve_status units_text and_then
returns c = rw (← c.in_ok-read_job.ensures) c.write_run.ensures
