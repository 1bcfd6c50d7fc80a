-- image_ends: what the checks found nothing in is what a step takes.
use mathlib.Core.Path.{ap, ◌∙◌}
use Rattle.checks.proofs.AcceptedLaws.{check_done}
use Rattle.step.specs.Values.{box_of, ends_of}
use Rattle.step.proofs.Given.{job-in, step_in, image-made}
use Rattle.one_step.specs.OneStep.{image_ends}
use Rattle.one_step.proofs.Given.{job-checked, box-checked}
use Rattle.one_step.proofs.image_ends.Goals as goal

pub equations-eqs-requires : goal.equations-eqs-requires
equations-eqs-requires c =
    job-in (check_done c.args.j (job-checked c.args.j c.args.e c.requires))

pub matrix-c-requires : goal.matrix-c-requires
matrix-c-requires c =
    (check_done c.args.j (job-checked c.args.j c.args.e c.requires)).few

pub box_of-x-requires : goal.box_of-x-requires
box_of-x-requires c =
    (check_done c.args.j (job-checked c.args.j c.args.e c.requires)).few

pub bounded-requires : goal.bounded-requires
bounded-requires c =
    let a = check_done c.args.j (job-checked c.args.j c.args.e c.requires) in
    (a.some, a.few)

pub image_box-k-requires : goal.image_box-k-requires
image_box-k-requires c =
    rw (c.bounded.ensures, c.box_of-x.ensures)
    (step_in c.args.j (job-checked c.args.j c.args.e c.requires) c.equations-eqs.ensures
    c.matrix-c.ensures (box_of c.args.j.head.n c.args.e)
    (box-checked c.args.j c.args.e c.requires))

pub ends_of-requires : goal.ends_of-requires
ends_of-requires c =
    (check_done c.args.j (job-checked c.args.j c.args.e c.requires)).few

pub returns : goal.returns
unfolding image_ends
returns c =
    let made = image-made c.args.j (job-checked c.args.j c.args.e c.requires) c.equations-eqs.ensures
    c.matrix-c.ensures in
    c.ends_of.ensures
    ∙ ap (ends_of c.args.j.head.n)
    (rw (c.bounded.ensures, c.box_of-x.ensures) at c.image_box-k.ensures ∙ made _)
