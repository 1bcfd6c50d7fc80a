-- The absolute value.
use Rattle.std.specs.Prelude.{ℤ, pos, nat_abs}

unfoldable pub abs_ℤ : ℤ → ℤ
abs_ℤ z = pos (nat_abs z)
