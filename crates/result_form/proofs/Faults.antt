-- The faults that a line of a result may have.
use Prim.Native.Nat.{ℕ}
use mathlib.Core.List.{List}
use Rattle.faults.specs.declared.Fault.{Fault}
use Rattle.jobs.specs.declared.Result.{Result}
use Rattle.jobs.specs.declared.ResultLine.{ResultLine}
use Rattle.reading.specs.Results.{Blamed}
use Rattle.reading.proofs.Blamed.{blamed-fault, blamed-after}
use Rattle.lines.proofs.Faults.{OfLine, spelling, number-of-line, visit-of-line, verdict-of-line, steps-of-line}
use Rattle.lines.proofs.Faults.{any-low-of-line, high-of-line}
use Rattle.result_form.specs.ResultForm.{result_says}

pub result_says_lem : (k : ResultLine) (r : Result) (l : List ℕ) → Blamed OfLine (result_says k r l)
unfolding result_says
result_says_lem ResultLine.Number r l = blamed-after _ _ (number-of-line l)
result_says_lem ResultLine.Visit r l = blamed-after _ _ (visit-of-line l)
result_says_lem ResultLine.Verdict r l = blamed-after _ _ (verdict-of-line l)
result_says_lem ResultLine.Steps r l = blamed-after _ _ (steps-of-line l)
result_says_lem ResultLine.Lo r l = blamed-after _ _ (any-low-of-line l)
result_says_lem ResultLine.Hi r l = blamed-after _ _ (high-of-line l r.n r.lo)
result_says_lem ResultLine.End r l = blamed-fault Fault.Spelling spelling
