-- write_step: a fault is handed on, and nothing is written; an image and what it decides can be.
use mathlib.Core.Path.{sym, ◌∙◌}
use Rattle.std.proofs.lemmas.Result.{err_from_is_err_and}
use Rattle.faults.proofs.Answer.{values-bad}
use Rattle.faults.proofs.Laws.{then-refused}
use Rattle.reading.proofs.Told.{fault-got}
use Rattle.one_step.specs.OneStep.{image_status, gives_image}
use Rattle.one_step.proofs.Given.{moves}
use Rattle.step_text.specs.Texts.{step_text_of}
use Rattle.step_text.proofs.Fits.{image-done, image-fits, decides, move-fits}
use Rattle.step_text.proofs.write_step.Goals as goal

pub returns-in_err-k : goal.returns-in_err-k
unfolding gives_image
returns-in_err-k c =
    let p = err_from_is_err_and c.from_residual.result c.from_residual.ensures.1 in
    rw (p.1, p.2, then-refused (image_status c.args.j c.args.x) _ (sym c.in_err-k.ensures)) (values-bad _ _ _)

pub returns-in_err-d : goal.returns-in_err-d
returns-in_err-d c =
    fault-got
    (c.in_err-d.ensures ∙ moves c.args.j.head.n c.args.x _ (decides c.args.j c.args.x c.in_ok-k.ensures))

pub step_lines-requires : goal.step_lines-requires
step_lines-requires c = record {
  ends_fit = image-fits c.args.j c.args.x c.in_ok-k.ensures;
  ends_fit_2 = move-fits c.args.j.head.n c.args.x _ c.in_ok-d.ensures;
}

pub returns : goal.returns
unfolding step_text_of
returns c =
    rw (
      image-done c.args.j c.args.x c.in_ok-k.ensures,
      ← c.in_ok-k.ensures,
      ← c.in_ok-d.ensures,
    )
    c.step_lines.ensures
