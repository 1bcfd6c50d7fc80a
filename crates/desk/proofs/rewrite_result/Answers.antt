-- `desk::rewrite_result` meets its contract.
use Rattle.std.proofs.lemmas.Result.{err_from_is_err_and}
use Rattle.faults.specs.Checks.{and_then}
use Rattle.faults.proofs.Answer.{values-bad}
use Rattle.desk.specs.Desk.{result_status, result_text}
use Rattle.desk.proofs.Taken.{result-taken}
use Rattle.desk.proofs.rewrite_result.Goals as goal

pub returns-in_err-read_result : goal.returns-in_err-read_result
unfolding result_status result_text and_then
returns-in_err-read_result c =
    let p = err_from_is_err_and c.from_residual.result c.from_residual.ensures.1 in
    rw (p.1, p.2, ← c.in_err-read_result.ensures) (values-bad _ _ _)

pub write_ready-requires : goal.write_ready-requires
write_ready-requires c = result-taken _ c.in_ok-read_result.ensures

pub returns : goal.returns
unfolding result_status result_text and_then
returns c =
    rw (← c.in_ok-read_result.ensures, result-taken _ c.in_ok-read_result.ensures) c.write_ready.ensures
