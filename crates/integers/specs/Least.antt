-- The least and the greatest of two numbers, and of four.
use Rattle.std.specs.Prelude.{cond, ℤ}
use Rattle.std.specs.Int.Signed.{lt_z}

unfoldable pub min_ℤ : ℤ → ℤ → ℤ
min_ℤ a b = cond (lt_z a b) a b

unfoldable pub max_ℤ : ℤ → ℤ → ℤ
max_ℤ a b = cond (lt_z a b) b a

abbrev pub min4 : ℤ → ℤ → ℤ → ℤ → ℤ
min4 a b c d = min_ℤ (min_ℤ a b) (min_ℤ c d)

abbrev pub max4 : ℤ → ℤ → ℤ → ℤ → ℤ
max4 a b c d = max_ℤ (max_ℤ a b) (max_ℤ c d)
