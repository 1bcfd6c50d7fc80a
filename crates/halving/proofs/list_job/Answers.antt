-- list_job: the job's own box is in range, and what is made of the job runs as the job does.
use native.Mathlib.Nat.{zero-add}
use mathlib.Core.Path.{subst}
use Rattle.checks.proofs.AcceptedLaws.{check_done}
use Rattle.step.proofs.Given.{job-in, step_in}
use Rattle.halving.specs.Boxes.{boxes_of}
use Rattle.halving.specs.Lists.{Lists}
use Rattle.halving.proofs.Each.{start}
use Rattle.halving.proofs.Lists.{lists_length}
use Rattle.halving.proofs.Turns.{job-boxes}
use Rattle.halving.proofs.list_job.Goals as goal

pub equations-eqs-requires : goal.equations-eqs-requires
equations-eqs-requires c = job-in (check_done _ c.requires.j_value)

pub matrix-c-requires : goal.matrix-c-requires
matrix-c-requires c = (check_done _ c.requires.j_value).few

pub box_of-requires : goal.box_of-requires
box_of-requires c = (check_done _ c.requires.j_value).few

pub list_from-requires : goal.list_from-requires
list_from-requires c =
    let good = check_done c.args.j c.requires.j_value in
    let right = start c.args.j good in
    record {
      step = step_in c.args.j c.requires.j_value c.equations-eqs.ensures c.matrix-c.ensures c.box_of.result
          (rw c.box_of.ensures right.box);
      some = good.some;
      size = rw c.box_of.ensures right.size;
      enough = rw zero-add c.requires.depth_in_bounds;
    }

pub shape_of-list : goal.shape_of-list
shape_of-list c = lists_length _ c.list_from.ensures

pub returns : goal.returns
unfolding boxes_of
returns c =
    subst (Lists c.args.j.head.n _ _ 0 _)
    (job-boxes c.args.j c.requires.j_value c.equations-eqs.ensures c.matrix-c.ensures _ _)
    (rw c.box_of.ensures at c.list_from.ensures)
