-- list_from: each call runs a box, and each half with a depth that is one less.
use Rattle.halving.proofs.+list_from.Given as goal

abbrev pub decreases-list_from : goal.decreases-list_from
decreases-list_from l = l.depth
