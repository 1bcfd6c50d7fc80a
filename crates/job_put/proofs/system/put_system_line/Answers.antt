-- `job_put::system::put_system_line` meets its contract.
use borrow.Author.Rules.{rules}
use native.Mathlib.Omega.{arith}
use lib.ListN.{get_or}
use lib.IntN.{pos}
use mir.Facts.{to_z-of_z}
use mir.Val.{SFits}
use mir.Syntax.{w64}
use Rattle.sizes.specs.Sizes.{entry_max}
use Rattle.digits.specs.Number.{digits_max}
use Rattle.jobs.specs.Places.{row_at}
use Rattle.lines.proofs.Checks.{within-below}
use Rattle.job_form.specs.JobBytes.{system_text}
use Rattle.job_put.proofs.Parts.{kind-good}
use Rattle.job_put.proofs.system.put_system_line.Goals as goal

pub put_equation_line-requires : goal.put_equation_line-requires
put_equation_line-requires c =
    let a = c.requires.accepted in
    record {
      few = a.few;
      room = omega (arith, c.requires.room);
      good = kind-good c.args.j c.args.i c.in-Poly.is
          (a.system c.args.i c.requires.live);
    }

pub put_sided_line-requires : goal.put_sided_line-requires
put_sided_line-requires c =
    let a = c.requires.accepted in
    let j = c.args.j in
    let i = c.args.i in
    let good = kind-good j i c.in-Linear.is (a.system i c.requires.live) in
    let e : SFits w64 (get_or j.system.right i (pos 0)) = search rules in
    record {
      some = a.some;
      few = a.few;
      room = omega (arith, c.requires.room);
      left = good.0;
      side = rw (to_z-of_z e) good.1;
    }

pub put_row_line-requires : goal.put_row_line-requires
put_row_line-requires c =
    let a = c.requires.accepted in
    let j = c.args.j in
    let i = c.args.i in
    record {
      few = a.few;
      wide = omega arith;
      room = omega (arith, c.requires.room);
      small = within-below j.head.n (row_at j.system.rows i) digits_max entry_max (omega arith)
          (kind-good j i c.in-Eigen.is (a.system i c.requires.live));
    }

pub returns-in-Poly : goal.returns-in-Poly
unfolding system_text
returns-in-Poly c =
    rw c.in-Poly.is c.put_equation_line.ensures

pub returns-in-Linear : goal.returns-in-Linear
unfolding system_text
returns-in-Linear c =
    let e : SFits w64 (get_or c.args.j.system.right c.args.i (pos 0)) = search rules in
    rw (c.in-Linear.is, ← to_z-of_z e) c.put_sided_line.ensures

pub returns-in-Eigen : goal.returns-in-Eigen
unfolding system_text
returns-in-Eigen c =
    rw c.in-Eigen.is c.put_row_line.ensures
