-- A listed box as numbers, "a fixed number of places for the largest n".
use Rattle.std.specs.Prelude.{Bool, true, false, List, [], ◌∷◌, ◌++◌, ◌≡◌, ℕ, ◌+◌, ◌*◌, ◌^◌, ◌≤◌, ℤ, pos, length}
use Rattle.std.proofs.lemmas.List.Edits.{sets}
use Rattle.sizes.specs.Sizes.{n_max}
use Rattle.intervals.specs.Places.{entry_at, side_at}
use Rattle.intervals.specs.declared.Interval.{Interval}
use Rattle.jobs.specs.Places.{equation_at}
use Rattle.step.specs.Ranges.{StepIn}
use Rattle.step.specs.Values.{low_ends, high_ends}
use Rattle.halving.specs.Boxes.{Listed}
use Rattle.halving.specs.declared.Shared.{Shared}

-- how many they are, whatever n is
abbrev pub listed_places : ℕ
listed_places = 1 + (n_max + n_max)

-- 1 for unique, 0 for open
abbrev pub unique_number : Bool → ℤ
unique_number true = pos 1
unique_number false = pos 0

-- then the low ends and the high ends, those past n zero
unfoldable pub numbers_in : ℕ → Listed → List ℤ
numbers_in n b = unique_number b.unique ∷ (low_ends n b.sides ++ high_ends n b.sides)

unfoldable pub numbers_of : ℕ → List Listed → List ℤ
numbers_of n [] = []
numbers_of n (b ∷ bs) = numbers_in n b ++ numbers_of n bs

-- numbers stand in a list from `at` on, every other number is the old one, and r is the place after them
pub record Put (old new : List ℤ) (at r : ℕ) (xs : List ℤ) : Type 0 where
  pub next : r ≡ at + length xs
  pub list : new ≡ sets old at xs

-- the same of boxes of n unknowns, counted as boxes: behind the first `at` boxes of a list
pub record Lists (n : ℕ) (old new : List ℤ) (at r : ℕ) (bs : List Listed) : Type 0 where
  pub next : r ≡ at + length bs
  pub list : new ≡ sets old (listed_places * at) (numbers_of n bs)

-- what is asked where the boxes that come of x are listed behind the first `at` in a list of `room` numbers
pub record ListsIn (s : Shared) (x : List Interval) (depth room at : ℕ) : Type 0 where
  pub step : StepIn s.n (equation_at s.eqs) (entry_at s.c) (side_at x)
  pub some : 1 ≤ s.n
  pub size : length x ≡ n_max
  pub enough : listed_places * (at + 2 ^ depth) ≤ room
