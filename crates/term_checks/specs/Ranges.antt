-- Sizes and order of the numbers in the first n places of a list.
use Rattle.std.specs.Prelude.{ℕ, Bool, ◌&&◌, List, leb, get_or, ℤ, pos, neg_ℤ}
use Rattle.std.specs.Int.Signed.{le_z}
use Rattle.lists.specs.Loops.{all_b}

-- from 1 to most
unfoldable pub one_to : ℕ → ℕ → Bool
one_to most m = leb 1 m && leb m most

-- from -most to most
unfoldable pub is_within : ℤ → ℤ → Bool
is_within z most = le_z (neg_ℤ most) z && le_z z most

unfoldable pub all_within : List ℤ → ℕ → ℤ → Bool
all_within xs n most = all_b n (λ i. is_within (get_or xs i (pos 0)) most)

-- each low end at most its high end
unfoldable pub all_ordered : List ℤ → List ℤ → ℕ → Bool
all_ordered lo hi n = all_b n (λ i. le_z (get_or lo i (pos 0)) (get_or hi i (pos 0)))
