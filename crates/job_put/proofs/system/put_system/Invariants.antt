-- `job_put::system::put_system` meets its contract.
use Rattle.writing.specs.Wrote.{Wrote}
use Rattle.job_form.specs.JobBytes.{system_kinds}
use Rattle.job_put.specs.Parts.{lines_bytes}
use Rattle.job_put.proofs.system.put_system.Given as goal

-- the first i lines are written
abbrev pub invariant-loop-i : goal.invariant-loop-i
invariant-loop-i l = Wrote l.initial.buf l.buf l.at l.p (lines_bytes l.fn.j (system_kinds l.i))
