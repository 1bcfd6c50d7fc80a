-- A number as a count from 0 to a limit.
use Rattle.std.specs.Prelude.{ℕ, cond, ltb, ℤ, pos, negsuc, Result, Ok, Err, Option, Some, None}
use Rattle.text.specs.declared.Uncounted.{Uncounted}

unfoldable pub in_count : ℕ → ℤ → Result ℕ Uncounted
in_count most (pos m) = cond (ltb most m) (Err Uncounted.Out) (Ok m)
in_count most (negsuc m) = Err Uncounted.Out

unfoldable pub count_of : ℕ → Option ℤ → Result ℕ Uncounted
count_of most None = Err Uncounted.Bad
count_of most (Some v) = in_count most v
