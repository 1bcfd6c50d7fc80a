-- What the reading of a text answers.
use Rattle.faults.specs.declared.Fault.{Fault}
use Rattle.faults.specs.Checked.{Checked, refused}
use Rattle.reading.specs.Lines.{Answer}
use Rattle.std.specs.Prelude.{Ok}

-- the value of all lines, or the first bad line's fault and number; "everything is zero beside a fault": no value
-- stands there
abbrev pub answered : {X : Type 0} → Answer Fault X → Checked X
answered (Answer.done x) = Ok x
answered (Answer.refused f n) = refused f n
