-- How the definitions, which go by place, read and make the code's arrays.
use Rattle.std.specs.Prelude.{List, [], ℕ, ℤ, pos, get_or, replicate}
use Rattle.sizes.specs.Sizes.{n_max}
use Rattle.lists.specs.Loops.{tab}
use Rattle.intervals.specs.declared.Interval.{Interval}
use Rattle.intervals.specs.Interval.{zero_i}

-- a row of numbers, and a matrix of them
abbrev pub number_at : List ℤ → ℕ → ℤ
number_at row k = get_or row k (pos 0)

abbrev pub entry_at : List (List ℤ) → ℕ → ℕ → ℤ
entry_at c i = number_at (get_or c i [])

-- a row of intervals, such as a box, and a matrix of them
abbrev pub side_at : List Interval → ℕ → Interval
side_at x k = get_or x k zero_i

abbrev pub cell_at : List (List Interval) → ℕ → ℕ → Interval
cell_at s i = side_at (get_or s i [])

-- "places past n play no part; a reader and every result leave them zero"
abbrev pub vector_of : ℕ → (ℕ → Interval) → List Interval
vector_of n f = tab n_max n zero_i f

abbrev pub matrix_of : ℕ → (ℕ → ℕ → Interval) → List (List Interval)
matrix_of n f = tab n_max n (replicate n_max zero_i) (λ i. vector_of n (f i))
