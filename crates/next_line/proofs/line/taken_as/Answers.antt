-- `next_line::line::taken_as` meets its contract: each line by the function of its kind.
use native.Mathlib.Omega.{arith}
use mathlib.Core.Path.{subst}
use Prim.Native.Nat.{◌≤◌}
use Rattle.jobs.specs.declared.JobLine.{JobLine}
use Rattle.job_form.specs.JobForm.{job_says}
use Rattle.next_line.specs.State.{place_of, line_read}
use Rattle.next_line.specs.Limits.{place_max}
use Rattle.next_line.proofs.line.taken_as.Goals as goal

pub system_taken-requires : goal.system_taken-requires
system_taken-requires c =
    let place = subst (λ (k : JobLine). place_of k ≤ place_max) c.in-System.is c.requires.line_placed in
    (c.requires.line_ready, omega (arith, place))

pub returns-in-Lo : goal.returns-in-Lo
unfolding line_read job_says
returns-in-Lo c = rw c.in-Lo.is c.low_taken.ensures

pub returns-in-End : goal.returns-in-End
unfolding line_read job_says
returns-in-End c = rw c.in-End.is
