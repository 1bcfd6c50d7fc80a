-- `job_read::ends::system_end` meets its contract.
use native.Mathlib.Omega.{arith}
use Rattle.std.proofs.lemmas.Result.{err_from_is_err_and}
use Rattle.job_read.proofs.Systems.{passed_none, passed-more, passed-bad, passed-done}
use Rattle.job_read.proofs.ends.system_end.Goals as goal

pub loop-i-init : goal.loop-i-init
loop-i-init c = (omega arith, passed_none _ _ _ c.requires.1.some c.requires.0)

pub returns-in_err-a : goal.returns-in_err-a
returns-in_err-a c =
    let p = err_from_is_err_and c.from_residual.result c.from_residual.ensures.1 in
    rw (p.1, p.2)
    (passed-bad _ _ _ c.loop-i.invariant.1 c.loop-i-test.true c.line_end.ensures
    c.in_err-a.ensures)

pub loop-i-preserved : goal.loop-i-preserved
loop-i-preserved c = (
  omega arith,
  passed-more _ _ _ c.loop-i.invariant.1 c.loop-i-test.true c.line_end.ensures
      c.in_ok-a.ensures,
)

pub returns : goal.returns
returns c = passed-done _ _ _ c.loop-i.invariant.1 c.loop-i-test.false
