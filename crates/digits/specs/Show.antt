-- How a number is written.
use Rattle.std.specs.Prelude.{ℕ, zero, suc, ◌+◌, ◌/◌, ◌%◌, List, [], ◌∷◌, ◌++◌, cond, ltb, ℤ, pos, negsuc}
use Rattle.digits.specs.Bytes.{digit0, minus_sign}
use Rattle.digits.specs.Number.{digits_max}

-- the digits of m, of which there are at most k
unfoldable pub show_magnitude : ℕ → ℕ → List ℕ
show_magnitude zero m = []
show_magnitude (suc k) m = cond (ltb m 10) ((digit0 + m) ∷ []) (show_magnitude k (m / 10) ++ ((digit0 + m % 10) ∷ []))

-- the digits of a number, of which there are at most k, after a minus where it is below 0
unfoldable pub show_signed : ℕ → ℤ → List ℕ
show_signed k (pos m) = show_magnitude k m
show_signed k (negsuc m) = minus_sign ∷ show_magnitude k (suc m)

-- "1 to 9 digits": a number of a text that is read
abbrev pub show_number : ℤ → List ℕ
show_number = show_signed digits_max
