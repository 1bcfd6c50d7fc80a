-- `units::write_units` meets its contract.
use mathlib.Core.Path.{sym}
use Rattle.std.proofs.lemmas.Result.{err_from_is_err_and}
use Rattle.faults.proofs.Answer.{values-bad}
use Rattle.units.proofs.write_units.Goals as goal

pub write_checked-requires : goal.write_checked-requires
write_checked-requires c = sym c.in_ok-check_result.ensures

pub returns-in_err-check_result : goal.returns-in_err-check_result
returns-in_err-check_result c =
    let p = err_from_is_err_and c.from_residual.result c.from_residual.ensures.1 in
    rw (p.1, p.2, ← c.in_err-check_result.ensures) (values-bad _ _ _)

pub returns : goal.returns
returns c = rw (← c.in_ok-check_result.ensures) c.write_checked.ensures
