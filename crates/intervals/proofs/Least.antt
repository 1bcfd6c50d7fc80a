-- std's least and greatest, which differ from ours only in which of two equal numbers they name.
use mathlib.Core.Path.{◌≡◌, refl}
use native.Mathlib.Omega.{arith}
use lib.IntN.{ℤ}
use mir.Facts.{to_z-of_z}
use Rattle.std.specs.Int.{int_min, int_max}
use Rattle.std.proofs.lemmas.Int.{ints}
use Rattle.integers.specs.Least.{min_ℤ, max_ℤ}
use Rattle.integers.proofs.Least.{min-both, max-both}

pub min_is : (a b : ℤ) → int_min a b ≡ min_ℤ a b
unfolding min_ℤ
min_is a b = grind (arith, ints)

pub max_is : (a b : ℤ) → int_max a b ≡ max_ℤ a b
unfolding max_ℤ
max_is a b = grind (arith, ints)

pub min_same : (m : ℤ) → min_ℤ m m ≡ m
min_same m = min-both (λ z. z ≡ m) m m refl refl

pub max_same : (m : ℤ) → max_ℤ m m ≡ m
max_same m = max-both (λ z. z ≡ m) m m refl refl

-- `min` and `max` on numbers that fit
pub ruleset choices = (to_z-of_z, min_is, max_is)

-- the same where a number stands beside itself
pub ruleset choices_of_two = (choices, min_same, max_same)
