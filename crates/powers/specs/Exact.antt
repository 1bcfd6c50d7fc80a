-- The exact powers of a whole number.
use Rattle.std.specs.Prelude.{ℕ, zero, suc, ℤ, pos, ◌*ℤ◌}

unfoldable pub power : ℤ → ℕ → ℤ
power x zero = pos 1
power x (suc e) = power x e *ℤ x
