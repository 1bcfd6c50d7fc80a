-- What the check of a line and a public operation answer: a value, or what refuses it. A check alone has no value.
use Rattle.std.specs.Prelude.{ℕ, Result, Ok, Err}
use Rattle.faults.specs.declared.Fault.{Fault}
use Rattle.faults.specs.declared.Refusal.{Refusal}

-- of one line: its value, or its fault
abbrev pub Found : Type 0 → Type 0
Found A = Result A Fault

abbrev pub Finding : Type 0
Finding = Found (Unit {0})

-- "A fault returns its number and a line"
abbrev pub Checked : Type 0 → Type 0
Checked A = Result A Refusal

abbrev pub Status : Type 0
Status = Checked (Unit {0})

abbrev pub refused : {A : Type 0} → Fault → ℕ → Checked A
refused f line = Err (record { fault = f; line = line })

-- whether it is refused, and by what
abbrev pub status_of : {A : Type 0} → Checked A → Status
status_of (Ok x) = Ok tt
status_of (Err r) = Err r

-- the value; beside a refusal this one
abbrev pub value_or : {A : Type 0} → A → Checked A → A
value_or none (Ok x) = x
value_or none (Err r) = none
