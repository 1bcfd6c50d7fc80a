-- What a line function answers: what the line says, and where the next line begins, or the line's fault.
use Rattle.std.specs.Prelude.{ℕ, ◌+◌, cond, List, Option, Some, None, Ok, Err}
use Rattle.faults.specs.declared.Fault.{Fault}
use Rattle.faults.specs.Checked.{Found}
use Rattle.reading.specs.Places.{line_at, line_end}
use Rattle.scan.specs.Lines.{line_is}
use Rattle.scan.specs.declared.At.{At}

-- what f makes of the line that begins at a, and 2 where no LF ends it
abbrev pub said : {A : Type 0} → (List ℕ → Found A) → List ℕ → ℕ → Found A
said = line_at Fault.Spelling

-- where the line after it begins
abbrev pub onward : List ℕ → ℕ → ℕ
onward t a = line_end t a + 1

-- the line's value, and the place after it
abbrev pub line_from : {A : Type 0} → Found A → ℕ → Found (At A)
line_from (Ok x) b = Ok (record { value = x; next = b })
line_from (Err f) b = Err f

-- this value, where the line that begins at a is these bytes
abbrev pub word_from : {A : Type 0} → List ℕ → A → List ℕ → ℕ → Option (At A)
word_from line x t a = cond (line_is line t a) (Some (record { value = x; next = onward t a })) None
