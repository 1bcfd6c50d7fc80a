-- Equality of two numbers, as a test.
use Rattle.std.specs.Prelude.{Bool, false, eqb, ℤ, pos, negsuc}

abbrev pub eq_ℤ : ℤ → ℤ → Bool
eq_ℤ (pos a) (pos b) = eqb a b
eq_ℤ (pos a) (negsuc b) = false
eq_ℤ (negsuc a) (pos b) = false
eq_ℤ (negsuc a) (negsuc b) = eqb a b
