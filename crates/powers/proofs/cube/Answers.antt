-- cube: the product takes the rounded square.
use Rattle.powers.proofs.Ranges.{fits-cube}
use Rattle.powers.proofs.cube.Goals as goal

pub times-requires : goal.times-requires
times-requires c = rw c.square.ensures (fits-cube c.requires)
