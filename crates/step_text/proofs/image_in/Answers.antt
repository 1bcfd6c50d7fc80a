-- image_in: the reader's fault, or what is made of the job that it took.
use Rattle.std.proofs.lemmas.Result.{err_from_is_err_and}
use Rattle.faults.specs.Checks.{and_then}
use Rattle.faults.proofs.Answer.{values-bad}
use Rattle.step_text.specs.Texts.{box_status, box_image}
use Rattle.step_text.proofs.image_in.Goals as goal

pub returns-in_err-read_job : goal.returns-in_err-read_job
unfolding box_status box_image and_then
returns-in_err-read_job c =
    let p = err_from_is_err_and c.from_residual.result c.from_residual.ensures.1 in
    rw (p.1, p.2, ← c.in_err-read_job.ensures) (values-bad _ _ _)

pub returns : goal.returns
unfolding box_status box_image and_then
returns c = rw (← c.in_ok-read_job.ensures) c.write_image.ensures
