-- decide: a fault is handed on, and nothing is written; what is decided can be.
use mathlib.Core.Path.{sym}
use Rattle.std.proofs.lemmas.Result.{err_from_is_err_and}
use Rattle.faults.proofs.Answer.{values-bad}
use Rattle.faults.proofs.Laws.{then-refused}
use Rattle.one_step.specs.OneStep.{decide_status, gives_move}
use Rattle.step_text.specs.Texts.{decide_text}
use Rattle.step_text.proofs.Fits.{move-done, move-fits}
use Rattle.step_text.proofs.decide.Goals as goal

pub returns-in_err-decide : goal.returns-in_err-decide
unfolding gives_move
returns-in_err-decide c =
    let a = c.args in
    let p = err_from_is_err_and c.from_residual.result c.from_residual.ensures.1 in
    rw (p.1, p.2, then-refused (decide_status a.n a.x a.k) _ (sym c.in_err-decide.ensures)) (values-bad _ _ _)

pub move_lines-requires : goal.move_lines-requires
move_lines-requires c = move-fits c.args.n c.args.x c.args.k c.in_ok-decide.ensures

pub returns : goal.returns
unfolding decide_text
returns c =
    rw (move-done c.args.n c.args.x c.args.k c.in_ok-decide.ensures, ← c.in_ok-decide.ensures) c.move_lines.ensures
