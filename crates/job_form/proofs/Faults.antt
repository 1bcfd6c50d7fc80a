-- The faults that a line of a job may have.
use Prim.Native.Nat.{ℕ}
use mathlib.Core.List.{List}
use Rattle.text.specs.Keys.{starts_with}
use Rattle.text.specs.Words.{pin_key}
use Rattle.faults.specs.declared.Fault.{Fault}
use Rattle.jobs.specs.declared.Kind.{Kind}
use Rattle.jobs.specs.declared.Job.{Job}
use Rattle.jobs.specs.declared.JobLine.{JobLine}
use Rattle.reading.specs.Results.{Blamed}
use Rattle.reading.proofs.Blamed.{blamed-fault, blamed-either, blamed-after}
use Rattle.lines.proofs.Faults.{OfLine, spelling, number-of-line, kind-of-line, unknowns-of-line}
use Rattle.lines.proofs.Faults.{pin-of-line, low-of-line, high-of-line, inverse-of-line, steps-of-line}
use Rattle.lines.proofs.Faults.{equation-of-line, sided-of-line, row-of-line}
use Rattle.job_form.specs.JobForm.{system_says, job_says}

system-says : (k : Kind) (i : ℕ) (j : Job) (l : List ℕ) → Blamed OfLine (system_says k i j l)
unfolding system_says
system-says Kind.Poly i j l = blamed-after _ _ (equation-of-line l j.head.n)
system-says Kind.Linear i j l = blamed-after _ _ (sided-of-line l j.head.n)
system-says Kind.Eigen i j l = blamed-after _ _ (row-of-line l j.head.n)

pub job-says : (k : JobLine) (j : Job) (l : List ℕ) → Blamed OfLine (job_says k j l)
unfolding job_says
job-says JobLine.Number j l = blamed-after _ _ (number-of-line l)
job-says JobLine.Kind j l = blamed-after _ _ (kind-of-line l)
job-says JobLine.Unknowns j l = blamed-after _ _ (unknowns-of-line l)
job-says JobLine.Pin j l =
    blamed-either (starts_with pin_key l) _ _ (blamed-after _ _ (pin-of-line l j.head.n))
    (blamed-after _ _ (low-of-line l j.head.n))
job-says JobLine.Lo j l = blamed-after _ _ (low-of-line l j.head.n)
job-says JobLine.Hi j l = blamed-after _ _ (high-of-line l j.head.n j.ends.lo)
job-says JobLine.Inv j l = blamed-after _ _ (inverse-of-line l j.head.n)
job-says JobLine.Steps j l = blamed-after _ _ (steps-of-line l)
job-says (JobLine.System i) j l = system-says j.head.kind i j l
job-says JobLine.End j l = blamed-fault Fault.Spelling spelling
