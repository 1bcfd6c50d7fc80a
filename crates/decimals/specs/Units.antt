-- A number of marks in units, for people: "one mark is 1/65,536", which has a finite decimal.
use Rattle.std.specs.Prelude.{ℕ, zero, suc, ◌+◌, ◌*◌, ◌/◌, ◌%◌, List, [], ◌∷◌, ◌++◌, cond, eqb, ℤ, pos, negsuc}
use Rattle.sizes.specs.Sizes.{mark}
use Rattle.digits.specs.Bytes.{digit0, minus_sign}
use Rattle.digits.specs.Number.{digits_max}
use Rattle.digits.specs.Show.{show_magnitude}

-- marks of a unit
abbrev pub unit : ℕ
unit = mark

abbrev pub point : ℕ
point = 46

-- 65,536 is 2 to the power 16, and each digit takes one of its factors
abbrev pub decimals_max : ℕ
decimals_max = 16

-- at most k digits of r marks, which are less than a unit; none where nothing is left
unfoldable pub decimals : ℕ → ℕ → List ℕ
decimals zero r = []
decimals (suc k) r = cond (eqb r 0) [] ((digit0 + r * 10 / unit) ∷ decimals k (r * 10 % unit))

unfoldable pub fraction : ℕ → List ℕ
fraction r = cond (eqb r 0) [] (point ∷ decimals decimals_max r)

-- the whole units, and where a fraction is left a point and its digits
unfoldable pub show_size : ℕ → List ℕ
show_size m = show_magnitude digits_max (m / unit) ++ fraction (m % unit)

unfoldable pub show_units : ℤ → List ℕ
show_units (pos m) = show_size m
show_units (negsuc m) = minus_sign ∷ show_size (suc m)
