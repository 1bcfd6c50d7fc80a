-- `job_read::system::system_at` meets its contract.
use Prim.Native.Nat.{◌≤◌}
use Rattle.job_read.proofs.Systems.{Walked}
use Rattle.job_read.proofs.system.system_at.Given as goal

abbrev pub invariant-loop-i : goal.invariant-loop-i
invariant-loop-i l = (l.i ≤ l.head.n) × Walked l.text l.from l.head l.system l.i l.a
