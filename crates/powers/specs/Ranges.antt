-- How large powers can be: an end is at most 4.0, so that each exponent more makes a bound 4 times as large.
use Rattle.std.specs.Prelude.{ℕ, zero, suc, ◌*◌}

unfoldable pub grow : ℕ → ℕ → ℕ
grow zero B = B
grow (suc e) B = 4 * grow e B
