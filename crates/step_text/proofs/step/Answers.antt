-- step: the reader's fault, or what is made of the job that it took.
use Rattle.std.proofs.lemmas.Result.{err_from_is_err_and}
use Rattle.faults.specs.Checks.{and_then}
use Rattle.faults.proofs.Answer.{values-bad}
use Rattle.step_text.specs.Texts.{own_status, own_step}
use Rattle.step_text.proofs.step.Goals as goal

pub returns-in_err-j : goal.returns-in_err-j
unfolding own_status own_step and_then
returns-in_err-j c =
    let p = err_from_is_err_and c.from_residual.result c.from_residual.ensures.1 in
    rw (p.1, p.2, ← c.in_err-j.ensures) (values-bad _ _ _)

pub returns : goal.returns
unfolding own_status own_step and_then
returns c = rw (← c.in_ok-j.ensures) c.write_step.ensures
