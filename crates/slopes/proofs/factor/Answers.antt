-- factor: the product takes the power.
use native.Mathlib.Nat.{pos_of_ne-zero}
use Rattle.slopes.proofs.Ranges.{factor-fits}
use Rattle.slopes.proofs.factor.Goals as goal

pub times-requires : goal.times-requires
times-requires c = rw c.power.ensures (factor-fits c.requires (pos_of_ne-zero c.if-e-eq0.false))
