-- `result_write::write_result` meets its contract.
use mathlib.Core.Path.{sym, ◌∙◌}
use Rattle.std.proofs.lemmas.Result.{err_from_is_err_and}
use Rattle.faults.proofs.Answer.{values-bad}
use Rattle.result_form.specs.ResultShows.{show_result}
use Rattle.result_write.proofs.write_result.Goals as goal

pub returns-in_err-check_result : goal.returns-in_err-check_result
returns-in_err-check_result c =
    let args = c.args in
    let p = err_from_is_err_and c.from_residual.result c.from_residual.ensures.1 in
    rw (sym c.check_result.ensures ∙ c.in_err-check_result.was, p.1, p.2)
    (values-bad (show_result args.r) args.out.now _)
