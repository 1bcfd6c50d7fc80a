-- `job_read::ends::line_end` meets its contract.
use Rattle.std.proofs.lemmas.Result.{err_from_is_err_and}
use Rattle.job_read.proofs.Systems.{poly-adds, linear-adds, eigen-adds, from-ok, from-bad}
use Rattle.job_read.proofs.ends.line_end.Goals as goal

pub returns-in_err-equation_line-in-Poly : goal.returns-in_err-equation_line-in-Poly
returns-in_err-equation_line-in-Poly c =
    let p =
    err_from_is_err_and c.from_residual.result
    c.from_residual.ensures.1 in
    rw (p.1, p.2) (from-bad _ _ _ (poly-adds _ c.in-Poly.is) c.requires.0 c.in_err-equation_line-in-Poly.ensures)

pub returns-in_ok-equation_line-in-Poly : goal.returns-in_ok-equation_line-in-Poly
returns-in_ok-equation_line-in-Poly c =
    from-ok _ _ _ (poly-adds _ c.in-Poly.is) c.requires.0 c.in_ok-equation_line-in-Poly.ensures

pub returns-in_err-sided_line-in-Linear : goal.returns-in_err-sided_line-in-Linear
returns-in_err-sided_line-in-Linear c =
    let p =
    err_from_is_err_and c.from_residual-in_err-sided_line-in-Linear.result
    c.from_residual-in_err-sided_line-in-Linear.ensures.1 in
    rw (p.1, p.2) (from-bad _ _ _ (linear-adds _ c.in-Linear.is) c.requires.0 c.in_err-sided_line-in-Linear.ensures)

pub returns-in_ok-sided_line-in-Linear : goal.returns-in_ok-sided_line-in-Linear
returns-in_ok-sided_line-in-Linear c =
    from-ok _ _ _ (linear-adds _ c.in-Linear.is) c.requires.0 c.in_ok-sided_line-in-Linear.ensures

pub returns-in_err-row_line-in-Eigen : goal.returns-in_err-row_line-in-Eigen
returns-in_err-row_line-in-Eigen c =
    let p =
    err_from_is_err_and c.from_residual-in_err-row_line-in-Eigen.result
    c.from_residual-in_err-row_line-in-Eigen.ensures.1 in
    rw (p.1, p.2) (from-bad _ _ _ (eigen-adds _ c.in-Eigen.is) c.requires.0 c.in_err-row_line-in-Eigen.ensures)

pub returns-in_ok-row_line-in-Eigen : goal.returns-in_ok-row_line-in-Eigen
returns-in_ok-row_line-in-Eigen c =
    from-ok _ _ _ (eigen-adds _ c.in-Eigen.is) c.requires.0 c.in_ok-row_line-in-Eigen.ensures
