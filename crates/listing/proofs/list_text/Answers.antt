-- list_text: a fault of the text comes first.
use mir.Facts.{to_z-of_z}
use Rattle.std.proofs.lemmas.Result.{err_from_is_err_and}
use Rattle.listing.proofs.Answers.{text-refused, text-listed}
use Rattle.listing.proofs.list_text.Goals as goal

pub returns-in_err-read_job : goal.returns-in_err-read_job
returns-in_err-read_job c =
    let p = err_from_is_err_and c.from_residual.result c.from_residual.ensures.1 in
    rw (p.1, p.2) (text-refused _ _ _ c.in_err-read_job.ensures)

pub returns : goal.returns
returns c = text-listed _ _ _ c.in_ok-read_job.ensures (rw (to_z-of_z c.ranges.depth) at c.list_job.ensures)
