use Rattle.scan.proofs.Magnitudes.{Run}
use Rattle.scan.proofs.magnitude_at.Given as goal

abbrev pub invariant-loop-i : goal.invariant-loop-i
invariant-loop-i l = Run l.s l.from l.m l.i
