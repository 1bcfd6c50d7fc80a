-- e_vector: each turn makes one entry of E, each turn within it adds one exact product.
use mathlib.Core.Path.{◌≡◌}
use Rattle.sizes.specs.Sizes.{n_max}
use Rattle.lists.specs.Loops.{tab}
use Rattle.intervals.specs.Interval.{zero_i}
use Rattle.intervals.specs.Places.{cell_at, side_at}
use Rattle.matrices.specs.Products.{dot_i, e_of}
use Rattle.matrices.proofs.e_vector.Given as goal

abbrev pub invariant-loop-k : goal.invariant-loop-k
invariant-loop-k l = l.sum ≡ dot_i l.k (cell_at l.b l.i) (side_at l.z)

abbrev pub invariant-loop-i : goal.invariant-loop-i
invariant-loop-i l = l.e ≡ tab n_max l.i zero_i (e_of l.n (cell_at l.b) (side_at l.z))
