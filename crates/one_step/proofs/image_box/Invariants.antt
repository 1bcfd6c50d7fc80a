-- image_box: m, then F and S, which are filled equation by equation, then K of them.
use Prim.Native.Nat.{◌-◌}
use Rattle.intervals.specs.Places.{side_at}
use Rattle.jobs.specs.Places.{equation_at}
use Rattle.step.proofs.Filled.{Filled}
use Rattle.one_step.proofs.image_box.Given as goal

abbrev pub invariant-loop-i : goal.invariant-loop-i
invariant-loop-i l = Filled l.n l.i (equation_at l.eqs) (side_at l.m) (side_at l.x) l.f l.s

abbrev pub decreases-loop-i : goal.decreases-loop-i
decreases-loop-i l = l.n - l.i
