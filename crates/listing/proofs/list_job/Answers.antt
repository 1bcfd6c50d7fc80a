-- list_job: what halving answers, with the job's number and n.
use mir.Facts.{to_z-of_z}
use Rattle.std.proofs.lemmas.Result.{err_from_is_err_and}
use Rattle.listing.proofs.Answers.{job-refused, job-listed}
use Rattle.listing.proofs.list_job.Goals as goal

pub returns-in_err-halve : goal.returns-in_err-halve
returns-in_err-halve c =
    let p = err_from_is_err_and c.from_residual.result c.from_residual.ensures.1 in
    rw (p.1, p.2) (job-refused _ _ _ (rw (to_z-of_z c.ranges.depth) at c.in_err-halve.ensures))

pub returns : goal.returns
returns c = job-listed _ _ _ (rw (to_z-of_z c.ranges.depth) at c.in_ok-halve.ensures)
