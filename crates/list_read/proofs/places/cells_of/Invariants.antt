-- `list_read::places::cells_of` meets its contract.
use Prim.Native.Nat.{◌+◌, ◌≤◌}
use mathlib.Core.Path.{◌≡◌}
use lib.ListN.{get_or}
use lib.IntN.{pos}
use Rattle.sizes.specs.Sizes.{n_max}
use Rattle.lists.specs.Loops.{tab}
use Rattle.list_read.proofs.places.cells_of.Given as goal

abbrev pub invariant-loop-j : goal.invariant-loop-j
invariant-loop-j l = (l.j ≤ l.n) × (l.row ≡ tab n_max l.j (pos 0) (λ k. get_or l.vals (l.from + k) (pos 0)))
