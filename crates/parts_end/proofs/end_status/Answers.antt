-- `parts_end::end_status` meets its contract.
use Rattle.std.proofs.lemmas.Result.{err_from_is_err_and}
use Rattle.faults.specs.Checks.{and_then}
use Rattle.parts_end.proofs.end_status.Goals as goal

pub returns-in_err-end : goal.returns-in_err-end
unfolding and_then
returns-in_err-end c =
    let p = err_from_is_err_and c.from_residual.result c.from_residual.ensures.1 in
    rw (p.1, p.2, ← c.in_err-end.ensures)

pub returns : goal.returns
unfolding and_then
returns c = rw (← c.in_ok-end.ensures) c.check_job.ensures
