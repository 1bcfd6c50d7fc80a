-- `skip` ends: what is left falls. Nothing is at hand.
use Rattle.std.proofs.Common.{◌≡◌}
use Rattle.batch.proofs.input.Input.skip.Given as goal

abbrev pub invariant-loop-left : goal.invariant-loop-left
invariant-loop-left g l = (l.self.at ≡ 0) × (l.self.end ≡ 0)

abbrev pub decreases-loop-left : goal.decreases-loop-left
decreases-loop-left g l = l.left
