-- filled: after k turns the first k places.
use mathlib.Core.Path.{◌≡◌}
use Prim.Native.Nat.{ℕ}
use Rattle.lists.specs.Loops.{tab}
use Rattle.lists.specs.Calls.{Makes}
use Rattle.lists.proofs.filled.Given as goal

abbrev pub invariant-loop-k : goal.invariant-loop-k
invariant-loop-k g l = (f : ℕ → _) → Makes l.n (goal.F-post g l.make) f → l.all ≡ tab g.row.M l.k l.fn.rest f
