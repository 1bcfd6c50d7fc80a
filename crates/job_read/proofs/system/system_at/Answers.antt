-- `job_read::system::system_at` meets its contract.
use native.Mathlib.Omega.{arith}
use Rattle.job_read.proofs.Systems.{walked_more}
use Rattle.job_read.proofs.system.system_at.Goals as goal

pub loop-i-preserved : goal.loop-i-preserved
loop-i-preserved c = (
  omega arith,
  walked_more _ _ _ c.loop-i.invariant.1 c.loop-i-test.true c.line_at-next.ensures
      c.in_ok-a.ensures,
)
