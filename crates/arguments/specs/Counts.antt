-- A count in digits: the length of a request's text, and n.
use Rattle.std.specs.Prelude.{ℕ, ◌+◌, ◌-◌, ◌*◌, min, List, [], ◌∷◌, Bool, false, cond, length, get_or, eqb, Some, None}
use Rattle.std.specs.Prelude.{Option}
use Rattle.digits.specs.Bytes.{digit0}
use Rattle.digits.specs.Digits.{all_digits}

-- the greatest u64
abbrev pub count_max : ℕ
count_max = 18446744073709551615

-- a count that no u64 holds stands as the greatest one
abbrev pub capped : ℕ → ℕ
capped v = min v count_max

-- the number that digits spell after v
unfoldable pub value_from : ℕ → List ℕ → ℕ
value_from v [] = v
value_from v (b ∷ bs) = value_from (v * 10 + (b - digit0)) bs

-- digits, no leading zero unless it is 0 alone
unfoldable pub is_spelled : List ℕ → Bool
is_spelled s =
    cond (eqb (length s) 0) false
    (cond (eqb (get_or s 0 0) digit0) (eqb (length s) 1)
    (all_digits s))

unfoldable pub count_by : List ℕ → Option ℕ
count_by s = cond (is_spelled s) (Some (capped (value_from 0 s))) None
