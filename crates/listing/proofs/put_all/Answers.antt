use native.Mathlib.Nat.{le_antisymm}
use native.Mathlib.Omega.{arith}
use Rattle.writing.proofs.Wrote.{wrote-append, wrote-length}
use Rattle.listing.specs.Lines.{all_lines}
use Rattle.listing.proofs.Short.{boxes-none, boxes-more}
use Rattle.listing.proofs.put_all.Goals as goal

pub put_head-at-requires : goal.put_head-at-requires
put_head-at-requires c = omega arith

pub loop-i-init : goal.loop-i-init
loop-i-init c = record { live = omega arith; wrote = boxes-none _ _ _ _; short = omega arith }

pub put_box-at-requires : goal.put_box-at-requires
put_box-at-requires c = record {
  entry_in = c.requires.each c.loop-i.i c.loop-i-test.true;
  at_le_last_max =
      omega (arith, c.loop-i.invariant.short, c.loop-i.invariant.live, c.put_head-at.ensures.short, c.requires.few);
}

pub loop-i-preserved : goal.loop-i-preserved
loop-i-preserved c =
    let p = c.put_box-at.ensures in
    record {
      live = omega arith;
      wrote = boxes-more _ _ _ c.loop-i.invariant.wrote p.wrote;
      short = omega (arith, p.short, c.loop-i.invariant.short);
    }

pub shape_of-buf : goal.shape_of-buf
shape_of-buf c =
    let head = c.put_head-at.ensures.wrote in
    wrote-length (wrote-append head c.loop-i.invariant.wrote)

pub returns : goal.returns
unfolding all_lines
returns c =
    wrote-append c.put_head-at.ensures.wrote
    (rw (le_antisymm c.loop-i.invariant.live c.loop-i-test.false) at c.loop-i.invariant.wrote)
