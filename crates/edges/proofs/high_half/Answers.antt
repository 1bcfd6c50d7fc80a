-- high_half: the widest edge has a middle.
use native.Mathlib.Omega.{arith}
use Rattle.intervals.proofs.Ranges.{fits-mid}
use Rattle.edges.proofs.high_half.Goals as goal

pub middle-requires : goal.middle-requires
middle-requires c = fits-mid (omega arith) (c.requires.x_in.each c.widest-k.result c.widest-k.ensures.live)
