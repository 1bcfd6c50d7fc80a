-- `job_read::system::line_at` meets its contract.
use borrow.Author.Rules.{rules}
use mir.Facts.{to_z-of_z}
use mir.Syntax.{w64}
use Rattle.std.proofs.lemmas.Result.{err_from_is_err_and}
use Rattle.job_read.proofs.Systems.{poly-adds, linear-adds, eigen-adds, adds-ok, adds-bad}
use Rattle.job_read.proofs.system.line_at.Goals as goal

pub returns-in_err-l-in-Poly : goal.returns-in_err-l-in-Poly
returns-in_err-l-in-Poly c =
    let p = err_from_is_err_and c.from_residual.result c.from_residual.ensures.1 in
    rw (p.1, p.2) (adds-bad _ _ _ (poly-adds _ c.in-Poly.is) c.requires.0 c.in_err-l-in-Poly.ensures _ _ _)

pub returns-in_ok-l-in-Poly : goal.returns-in_ok-l-in-Poly
returns-in_ok-l-in-Poly c = adds-ok _ _ _ (poly-adds _ c.in-Poly.is) c.requires.0 c.in_ok-l-in-Poly.ensures _ _

pub returns-in_err-l-in-Linear : goal.returns-in_err-l-in-Linear
returns-in_err-l-in-Linear c =
    let p =
    err_from_is_err_and c.from_residual-in_err-l-in-Linear.result
    c.from_residual-in_err-l-in-Linear.ensures.1 in
    rw (p.1, p.2) (adds-bad _ _ _ (linear-adds _ c.in-Linear.is) c.requires.0 c.in_err-l-in-Linear.ensures _ _ _)

pub returns-in_ok-l-in-Linear : goal.returns-in_ok-l-in-Linear
returns-in_ok-l-in-Linear c =
    rw (to_z-of_z {w = w64} {z = c.in_ok-l-in-Linear.l.value.side} (search rules))
    (adds-ok _ _ _ (linear-adds _ c.in-Linear.is) c.requires.0 c.in_ok-l-in-Linear.ensures _ _)

pub returns-in_err-l-in-Eigen : goal.returns-in_err-l-in-Eigen
returns-in_err-l-in-Eigen c =
    let p = err_from_is_err_and c.from_residual-in_err-l-in-Eigen.result c.from_residual-in_err-l-in-Eigen.ensures.1 in
    rw (p.1, p.2) (adds-bad _ _ _ (eigen-adds _ c.in-Eigen.is) c.requires.0 c.in_err-l-in-Eigen.ensures _ _ _)

pub returns-in_ok-l-in-Eigen : goal.returns-in_ok-l-in-Eigen
returns-in_ok-l-in-Eigen c = adds-ok _ _ _ (eigen-adds _ c.in-Eigen.is) c.requires.0 c.in_ok-l-in-Eigen.ensures _ _
