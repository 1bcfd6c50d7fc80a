-- Where a text's reader stands after some lines.
use Rattle.std.specs.Prelude.{ℕ, List, Ok, Err}
use Rattle.faults.specs.declared.Fault.{Fault}
use Rattle.faults.specs.Checked.{Checked}
use Rattle.reading.specs.Lines.{Form, State}
use Rattle.reading.specs.Places.{Goes}
use Rattle.scan.specs.declared.At.{At}

-- the first bad line, or the kind of the next line and what the lines before it say
abbrev pub state_of : {L X Y : Type 0} → Checked (At Y) → (Y → L) → (Y → X) → State Fault L X
state_of (Ok y) kind value = State.at (kind y.value) (value y.value)
state_of (Err r) kind value = State.bad r.fault r.line

-- where the next line begins; after a bad line any place will do
abbrev pub next_of : {Y : Type 0} → Checked (At Y) → ℕ
next_of (Ok y) = y.next
next_of (Err r) = 0

-- the lines from a on, the first one of kind k after what v says, are read with this answer: where no line is bad, one
-- of the kind of what they say comes next, and that is the value of what the lines before it say
pub record Leads {L X Y : Type 0} (form : Form Fault L X) (t : List ℕ) (a : ℕ) (k : L) (v : X) (r : Checked (At Y))
    (kind : Y → L) (value : Y → X) : Type 0 where
  pub goes : Goes form t a k v (state_of r kind value) (next_of r)
