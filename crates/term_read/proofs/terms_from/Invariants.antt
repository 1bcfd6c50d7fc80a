use Prim.Native.Nat.{◌-◌}
use mathlib.Core.Path.{◌≡◌}
use lib.ListN.{length}
use Rattle.term_read.proofs.Several.{Inv}
use Rattle.term_read.proofs.terms_from.Given as goal

abbrev pub invariant-loop-term : goal.invariant-loop-term
invariant-loop-term l = Inv l.s l.from l.n l.q l.far l.a × (l.few ≡ l.n)

abbrev pub decreases-loop-term : goal.decreases-loop-term
decreases-loop-term l = length l.s - l.a
