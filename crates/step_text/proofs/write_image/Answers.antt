-- write_image: a fault is handed on, and nothing is written; an image can be.
use mathlib.Core.Path.{sym}
use Rattle.std.proofs.lemmas.Result.{err_from_is_err_and}
use Rattle.faults.proofs.Answer.{values-bad}
use Rattle.faults.proofs.Laws.{then-refused}
use Rattle.one_step.specs.OneStep.{image_status, gives_image}
use Rattle.step_text.specs.Texts.{image_text}
use Rattle.step_text.proofs.Fits.{image-done, image-fits}
use Rattle.step_text.proofs.write_image.Goals as goal

pub returns-in_err-image : goal.returns-in_err-image
unfolding gives_image
returns-in_err-image c =
    let p = err_from_is_err_and c.from_residual.result c.from_residual.ensures.1 in
    rw (p.1, p.2, then-refused (image_status c.args.j c.args.x) _ (sym c.in_err-image.ensures)) (values-bad _ _ _)

pub image_lines-requires : goal.image_lines-requires
image_lines-requires c = image-fits c.args.j c.args.x c.in_ok-image.ensures

pub returns : goal.returns
unfolding image_text
returns c =
    rw (image-done c.args.j c.args.x c.in_ok-image.ensures, ← c.in_ok-image.ensures) c.image_lines.ensures
