-- `job_read::ends::system_end` meets its contract.
use Prim.Native.Nat.{◌≤◌}
use Rattle.job_read.proofs.Systems.{Passed}
use Rattle.job_read.proofs.ends.system_end.Given as goal

abbrev pub invariant-loop-i : goal.invariant-loop-i
invariant-loop-i l = (l.i ≤ l.head.n) × Passed l.text l.from l.head l.i l.a
