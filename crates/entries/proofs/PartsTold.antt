-- What is told of a state that is handed in with a part.
use Prim.Native.Nat.{ℕ}
use mathlib.Core.Path.{◌≡◌, refl}
use mathlib.Core.List.{List}
use mathlib.Core.Bool.{Bool, true, false}
use Rattle.job_parts.specs.declared.Parts.{Parts}
use Rattle.job_parts.specs.Limits.{fits}
use Rattle.job_parts.specs.Parts.{part_taken}
use Rattle.entries.specs.Numbers.{told, first_given, parts_rows}

pub take-first : (p : Parts) (part : List ℕ) → told (part_taken p part).status ≡ first_given (parts_rows p)
unfolding part_taken parts_rows
take-first p part = go (fits p) refl
  where
    go : (b : Bool) → fits p ≡ b → told (part_taken p part).status ≡ first_given (parts_rows p)
    go true e = rw e
    go false e = rw e
