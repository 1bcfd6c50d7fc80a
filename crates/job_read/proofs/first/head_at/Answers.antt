-- `job_read::first::head_at` meets its contract, kind by kind.
use Rattle.std.proofs.lemmas.Result.{err_from_is_err_and}
use Rattle.job_read.proofs.Lines.{head-stop}
use Rattle.job_read.proofs.Pins.{no-pin, plain-head, pinned-head}
use Rattle.job_read.proofs.first.head_at.Goals as goal

pub returns-in_err-h : goal.returns-in_err-h
returns-in_err-h c =
    let p = err_from_is_err_and c.from_residual.result c.from_residual.ensures.1 in
    rw (p.1, p.2) (head-stop c.in_err-h.ensures.leads)

pub returns-in-Poly : goal.returns-in-Poly
returns-in-Poly c = plain-head c.in_ok-h.ensures (no-pin c.in-Poly.is)

pub returns-in-Eigen : goal.returns-in-Eigen
returns-in-Eigen c = pinned-head c.in_ok-h.ensures c.in-Eigen.is c.pin_at.ensures
