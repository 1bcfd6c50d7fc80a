-- Digits. "Exponent digits 0 to 9 are well spelled"
use Rattle.std.specs.Prelude.{ℕ, Bool, ◌&&◌, List, length, get_or, leb}
use Rattle.lists.specs.Loops.{all_b}
use Rattle.digits.specs.Bytes.{digit0, digit9}

unfoldable pub is_digit : ℕ → Bool
is_digit b = leb digit0 b && leb b digit9

unfoldable pub all_digits : List ℕ → Bool
all_digits s = all_b (length s) (λ k. is_digit (get_or s k 0))
