-- b_matrix: each turn makes one row of B, each turn within it one entry, each turn within that adds one exact product.
use mathlib.Core.Path.{◌≡◌}
use lib.ListN.{replicate}
use Rattle.sizes.specs.Sizes.{n_max}
use Rattle.lists.specs.Loops.{tab}
use Rattle.intervals.specs.Interval.{zero_i, point_i}
use Rattle.intervals.specs.Places.{entry_at, cell_at, vector_of}
use Rattle.matrices.specs.Products.{dot_i, b_of}
use Rattle.matrices.proofs.b_matrix.Given as goal

abbrev pub invariant-loop-k : goal.invariant-loop-k
invariant-loop-k l =
    l.sum ≡ dot_i l.k (λ m. point_i (entry_at l.c l.i m)) (λ m. cell_at l.s m l.j)

abbrev pub invariant-loop-j : goal.invariant-loop-j
invariant-loop-j l = l.line ≡ tab n_max l.j zero_i (b_of l.n (entry_at l.c) (cell_at l.s) l.i)

abbrev pub invariant-loop-i : goal.invariant-loop-i
invariant-loop-i l =
    l.b ≡ tab n_max l.i (replicate n_max zero_i)
    (λ m. vector_of l.n (b_of l.n (entry_at l.c) (cell_at l.s) m))
