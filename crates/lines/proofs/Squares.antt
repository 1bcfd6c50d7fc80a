-- n rows of n have room where n is at most n_max.
use Prim.Native.Nat.{ℕ, suc, ◌+◌, ◌*◌, ◌<◌, ◌≤◌}
use native.Mathlib.Nat.{mul-le-mul, suc-mul, le_trans}
use Rattle.sizes.specs.Sizes.{n_max}
use Rattle.text.specs.Lists.{places_max}

pub square-fits : (n : ℕ) → n ≤ n_max → n * n ≤ places_max
square-fits n h = mul-le-mul {n₁ = n} {m₁ = n} {n₂ = n_max} {m₂ = n_max} h h

pub row_fits : (i n : ℕ) → i < n → n ≤ n_max → i * n + n ≤ places_max
row_fits i n l h = rw (← suc-mul i n) (mul-le-mul {n₁ = suc i} {m₁ = n} {n₂ = n_max} {m₂ = n_max} (le_trans l h) h)
