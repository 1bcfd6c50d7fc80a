-- d_vector: each turn makes one entry of D, each turn within it adds one exact product.
use mathlib.Core.Path.{◌≡◌}
use Rattle.sizes.specs.Sizes.{n_max}
use Rattle.lists.specs.Loops.{tab}
use Rattle.intervals.specs.Interval.{zero_i, point_i}
use Rattle.intervals.specs.Places.{entry_at, side_at}
use Rattle.matrices.specs.Products.{dot_i, d_of}
use Rattle.matrices.proofs.d_vector.Given as goal

abbrev pub invariant-loop-k : goal.invariant-loop-k
invariant-loop-k l = l.sum ≡ dot_i l.k (λ m. point_i (entry_at l.c l.i m)) (side_at l.f)

abbrev pub invariant-loop-i : goal.invariant-loop-i
invariant-loop-i l = l.d ≡ tab n_max l.i zero_i (d_of l.n (entry_at l.c) (side_at l.f))
