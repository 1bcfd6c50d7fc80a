-- The documents' numbers for the cases of the values' enums.
use Rattle.std.specs.Prelude.{ℕ, cond, eqb, Ok, Err}
use Rattle.faults.specs.declared.Fault.{Fault}
use Rattle.faults.specs.Checked.{Checked}

-- document 01's table of "Fault numbers", and what document 02 adds to it
abbrev pub fault_number : Fault → ℕ
fault_number Fault.LongText = 1
fault_number Fault.Spelling = 2
fault_number Fault.Unknowns = 3
fault_number Fault.Beyond = 4
fault_number Fault.Crossed = 5
fault_number Fault.Terms = 6
fault_number Fault.ShortBuffer = 7
fault_number Fault.Steps = 8
fault_number Fault.Pin = 9
fault_number Fault.Full = 13
fault_number Fault.Visits = 14
fault_number Fault.NotOpen = 15
fault_number Fault.Table = 16

-- the last number of those that a text can have
abbrev pub fault_max : ℕ
fault_max = 9

-- the fault of a number
unfoldable pub fault_of : ℕ → Fault
fault_of k =
    cond (eqb k 1) Fault.LongText
    (cond (eqb k 2) Fault.Spelling
    (cond (eqb k 3) Fault.Unknowns
    (cond (eqb k 4) Fault.Beyond
    (cond (eqb k 5) Fault.Crossed
    (cond (eqb k 6) Fault.Terms
    (cond (eqb k 7) Fault.ShortBuffer
    (cond (eqb k 8) Fault.Steps
    (cond (eqb k 9) Fault.Pin
    (cond (eqb k 13) Fault.Full
    (cond (eqb k 14) Fault.Visits
    (cond (eqb k 15) Fault.NotOpen Fault.Table)))))))))))

-- "A fault returns its number and a line": 0 and 0 where there is none
abbrev pub number_of : {A : Type 0} → Checked A → ℕ
number_of (Ok x) = 0
number_of (Err r) = fault_number r.fault

abbrev pub line_of : {A : Type 0} → Checked A → ℕ
line_of (Ok x) = 0
line_of (Err r) = r.line
