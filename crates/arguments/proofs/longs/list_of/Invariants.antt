-- The fields from `from` on come to the places from i on.
use Rattle.arguments.proofs.Fields.{Inv}
use Rattle.arguments.proofs.longs.list_of.Given as goal

abbrev pub invariant-loop-place : goal.invariant-loop-place
invariant-loop-place l = Inv l.s l.place-items l.from l.place-index
