-- widest: an edge more, and the place that is found is one of the n.
use mathlib.Core.Path.{◌≡◌}
use native.Mathlib.Nat.{le_antisymm}
use native.Mathlib.Omega.{arith}
use Rattle.edges.specs.Edges.{widest_of}
use Rattle.edges.proofs.Found.{found-live, wider_le, widest-none, widest-more}
use Rattle.edges.proofs.widest.Goals as goal

pub loop-i-init : goal.loop-i-init
loop-i-init c = record { reached = omega arith; found = widest-none _ }

pub wider-k-requires : goal.wider-k-requires
wider-k-requires c = record { x_in = c.requires.x_in; live = (c.loop-i-test.true, omega arith) }

pub loop-i-preserved : goal.loop-i-preserved
loop-i-preserved c =
    let x = c.args.x in
    record {
      reached = rw c.wider-k.ensures (omega (arith, wider_le x c.loop-i.i c.loop-i.k c.loop-i.invariant.reached));
      found = widest-more x c.loop-i.i c.loop-i.invariant.found c.wider-k.ensures;
    }

pub returns : goal.returns
returns c =
    let found : c.loop-i.k ≡ widest_of c.args.n c.args.x =
    rw (← le_antisymm c.loop-i.auto.i-end c.loop-i-test.false) c.loop-i.invariant.found in
    record { place = found; live = found-live c.args.x c.args.n c.requires.some found }
