-- joined: each part of D can be turned, and each sum fits.
use Rattle.step.proofs.Fitting.{turned-d, newton-fits, joined-fits}
use Rattle.step.proofs.joined.Goals as goal

pub negated-requires : goal.negated-requires
negated-requires c = turned-d c.requires c.loop-i.i c.loop-i-test.true

pub add-newton-requires : goal.add-newton-requires
add-newton-requires c = newton-fits c.requires c.loop-i.i c.loop-i-test.true c.negated.ensures

pub add-requires : goal.add-requires
add-requires c = joined-fits c.requires c.loop-i.i c.loop-i-test.true c.negated.ensures c.add-newton.ensures
