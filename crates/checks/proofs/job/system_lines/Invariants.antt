-- `job::system_lines` meets its contract. The loop's invariant: no line passed is bad.
use mathlib.Core.Path.{◌≡◌}
use Rattle.std.specs.Prelude.{Ok}
use Rattle.faults.specs.Checks.{lines_of}
use Rattle.jobs.specs.declared.JobLine.{JobLine}
use Rattle.checks.specs.Checks.{job_line_status}
use Rattle.checks.proofs.job.system_lines.Given as goal

abbrev pub invariant-loop-i : goal.invariant-loop-i
invariant-loop-i l = lines_of l.i (λ k. job_line_status (JobLine.System k) l.j) ≡ Ok tt
