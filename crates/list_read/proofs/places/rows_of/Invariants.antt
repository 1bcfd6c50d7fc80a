use Prim.Native.Nat.{◌*◌, ◌≤◌}
use mathlib.Core.Path.{◌≡◌}
use Rattle.sizes.specs.Sizes.{n_max}
use Rattle.lists.specs.Loops.{tab}
use Rattle.jobs.specs.Zero.{zero_row}
use Rattle.lines.specs.Places.{cells}
use Rattle.list_read.proofs.places.rows_of.Given as goal

abbrev pub invariant-loop-i : goal.invariant-loop-i
invariant-loop-i l = (l.i ≤ l.n) × (l.rows ≡ tab n_max l.i zero_row (λ k. record { at = cells l.vals (k * l.n) l.n }))
