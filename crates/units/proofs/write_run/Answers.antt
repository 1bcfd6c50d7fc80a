-- `units::write_run` meets its contract.
use Rattle.std.proofs.lemmas.Result.{err_from_is_err_and}
use Rattle.faults.specs.Checks.{and_then}
use Rattle.faults.proofs.Answer.{values-bad}
use Rattle.desk.specs.Desk.{run_status}
use Rattle.units.specs.Show.{units_run}
use Rattle.units.proofs.write_run.Goals as goal

pub returns-in_err-run : goal.returns-in_err-run
unfolding run_status units_run and_then
returns-in_err-run c =
    let p = err_from_is_err_and c.from_residual.result c.from_residual.ensures.1 in
    rw (p.1, p.2, ← c.in_err-run.ensures) (values-bad _ _ _)

pub returns : goal.returns
unfolding run_status units_run and_then
returns c = rw (← c.in_ok-run.ensures) c.write_units.ensures
