-- A long number: an optional minus, 1 to 18 digits, no leading zero, no minus zero.
use Rattle.std.specs.Prelude.{ℕ, List, [], ◌∷◌, Bool, false, cond, length, drop, ltb, ℤ, Some, None, Option}
use Rattle.digits.specs.Bytes.{minus_sign}
use Rattle.digits.specs.Number.{long_max, with_minus, without_minus}
use Rattle.text.specs.Keys.{starts_with}
use Rattle.arguments.specs.Counts.{value_from, is_spelled}

-- 1 to 18 digits, no leading zero
unfoldable pub is_long : List ℕ → Bool
is_long s = cond (ltb long_max (length s)) false (is_spelled s)

unfoldable pub long_magnitude : List ℕ → Option ℕ
long_magnitude s = cond (is_long s) (Some (value_from 0 s)) None

-- an optional minus; no minus zero
unfoldable pub long_of : List ℕ → Option ℤ
long_of s =
    cond (starts_with (minus_sign ∷ []) s) (with_minus (long_magnitude (drop 1 s)))
    (without_minus (long_magnitude s))
