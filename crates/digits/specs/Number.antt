-- What a number of a text means. "Numbers: an optional minus, 1 to 9 digits, no leading zero, no minus zero."
use Rattle.std.specs.Prelude.{ℕ, ◌+◌, ◌-◌, ◌*◌, List, [], ◌∷◌, cond, length, get_or, drop, ltb, eqb, pos, neg_ℤ, ℤ}
use Rattle.std.specs.Prelude.{Option, Some, None}
use Rattle.digits.specs.Bytes.{digit0, digit9, minus_sign}

abbrev pub digits_max : ℕ
digits_max = 9

-- the widest number that an i64 surely holds
abbrev pub long_max : ℕ
long_max = 18

-- the number that digits spell after v; none where a byte is no digit
unfoldable pub digits_from : ℕ → List ℕ → Option ℕ
digits_from v [] = Some v
digits_from v (b ∷ bs) =
    cond (ltb b digit0) None
    (cond (ltb digit9 b) None
    (digits_from (v * 10 + (b - digit0)) bs))

-- "1 to 9 digits, no leading zero"
unfoldable pub read_magnitude : List ℕ → Option ℕ
read_magnitude s =
    cond (eqb (length s) 0) None
    (cond (ltb digits_max (length s)) None
    (cond (eqb (get_or s 0 0) digit0) (cond (ltb 1 (length s)) None (Some 0))
    (digits_from 0 s)))

-- "no minus zero"
unfoldable pub with_minus : Option ℕ → Option ℤ
with_minus (Some m) = cond (eqb m 0) None (Some (neg_ℤ (pos m)))
with_minus None = None

unfoldable pub without_minus : Option ℕ → Option ℤ
without_minus (Some m) = Some (pos m)
without_minus None = None

-- "an optional minus"
unfoldable pub read_number : List ℕ → Option ℤ
read_number s =
    cond (eqb (length s) 0) None
    (cond (eqb (get_or s 0 0) minus_sign) (with_minus (read_magnitude (drop 1 s)))
    (without_minus (read_magnitude s)))
