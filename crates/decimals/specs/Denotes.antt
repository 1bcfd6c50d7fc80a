-- What the bytes of a number in units say: a minus where it is below 0, whole digits, and where digits follow a point
-- before them. With L digits behind the point, the number m that all digits spell is the units times 10 to the power L:
-- here with the marks v, of which 65,536 are a unit, multiplied out in whole numbers. No 0 stands at the end.
use Rattle.std.specs.Prelude.{ℕ, ◌*◌, ◌^◌, ◌≡◌, List, [], ◌∷◌, ◌++◌, length, ℤ, pos, negsuc, nat_abs, Some}
use Rattle.digits.specs.Bytes.{digit0, minus_sign}
use Rattle.digits.specs.Number.{digits_from}
use Rattle.decimals.specs.Units.{unit, point}

unfoldable pub sign_of : ℤ → List ℕ
sign_of (pos m) = []
sign_of (negsuc m) = minus_sign ∷ []

unfoldable pub pointed : List ℕ → List ℕ
pointed [] = []
pointed (d ∷ ds) = point ∷ d ∷ ds

pub record Denotes (t : List ℕ) (v : ℤ) : Type 0 where
  pub whole : List ℕ
  pub part : List ℕ
  pub m : ℕ
  pub looks : t ≡ sign_of v ++ whole ++ pointed part
  pub digits : digits_from 0 (whole ++ part) ≡ Some m
  pub exact : m * unit ≡ nat_abs v * 10 ^ length part
  pub shortest : (ds : List ℕ) → part ≡ ds ++ (digit0 ∷ []) → ⊥
