use mathlib.Core.Path.{◌∙◌}
use Rattle.step.specs.Step.{image_box}
use Rattle.step.proofs.Imaged.{m-in, asked, image-is}
use Rattle.step.proofs.Filled.{room-zero, filled_none, filled_more, filled-values, filled-slopes}
use Rattle.one_step.proofs.image_box.Goals as goal

pub loop-i-init : goal.loop-i-init
loop-i-init c = filled_none _ _ _ _ (room-zero _)

pub equation_over-requires : goal.equation_over-requires
equation_over-requires c =
    let h = c.requires in record {
      m_in = m-in h c.middles-m.ensures;
      x_in = h.box;
      q_in = h.system.each c.loop-i.i c.loop-i-test.true;
    }

pub loop-i-preserved : goal.loop-i-preserved
loop-i-preserved c =
    filled_more _ _ _ _ c.loop-i.invariant c.loop-i-test.true c.equation_over.ensures

pub image-requires : goal.image-requires
image-requires c =
    let l = c.loop-i in
    let done = c.loop-i-test.false in
    asked c.requires c.middles-m.ensures (filled-values _ _ _ _ l.invariant done)
    (filled-slopes _ _ _ _ l.invariant done)

pub returns : goal.returns
unfolding image_box
returns c =
    let l = c.loop-i in
    let done = c.loop-i-test.false in
    c.image.ensures
    ∙ image-is c.requires c.middles-m.ensures (filled-values _ _ _ _ l.invariant done)
    (filled-slopes _ _ _ _ l.invariant done)
