-- reply_open: a refusal is handed on, a slot and a visit are put.
use Rattle.std.proofs.lemmas.Result.{err_from_is_err_and}
use Rattle.faults.proofs.Answer.{values-bad}
use Rattle.answers.proofs.Leaving.{opened-done, opened-bad, opened-leaves}
use Rattle.answers.proofs.calls.reply_open.Goals as goal

pub returns-in_err-opened-clause-answer : goal.returns-in_err-opened-clause-answer
returns-in_err-opened-clause-answer c =
    let p = err_from_is_err_and c.from_residual.result c.from_residual.ensures.1 in
    rw (p.1, p.2, opened-bad _ _ c.in_err-opened.ensures.answer) (values-bad _ _ _)

pub returns-clause-answer : goal.returns-clause-answer
returns-clause-answer c =
    let done = opened-done c.in_ok-opened.ensures.answer in
    let put = rw (done.1) at c.put_opened.ensures in
    rw (done.0) (opened-leaves _ _ c.requires put)
