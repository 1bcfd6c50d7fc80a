-- The values of a line, which stand in lent places.
use Rattle.std.specs.Prelude.{ℕ, List, ℤ, Ok, Err}
use Rattle.faults.specs.Checked.{Found}
use Rattle.scan.specs.declared.At.{At}

-- these, with the place after the line, or the line's fault
abbrev pub with_value : List ℤ → Found ℕ → Found (At (List ℤ))
with_value xs (Ok next) = Ok (record { value = xs; next = next })
with_value xs (Err f) = Err f
