-- matrix: each turn copies one row.
use mathlib.Core.Path.{◌≡◌}
use lib.IntN.{pos}
use lib.ListN.{replicate}
use Rattle.sizes.specs.Sizes.{n_max}
use Rattle.lists.specs.Loops.{tab}
use Rattle.jobs.specs.Places.{row_at}
use Rattle.step.proofs.values.matrix.Given as goal

abbrev pub invariant-loop-i : goal.invariant-loop-i
invariant-loop-i l = l.c ≡ tab n_max l.i (replicate n_max (pos 0)) (row_at l.rows)
