-- From the numbers of a line to the places of a job. "places past n play no part; a reader and every result leave them
-- zero"
use Rattle.std.specs.Prelude.{ℕ, ◌+◌, ◌*◌, List, get_or, ℤ, pos}
use Rattle.sizes.specs.Sizes.{n_max}
use Rattle.lists.specs.Loops.{tab}
use Rattle.jobs.specs.Places.{row_at}
use Rattle.jobs.specs.Zero.{zero_row}
use Rattle.jobs.specs.declared.Row.{Row}
use Rattle.reading.specs.NumberLines.{placed}

-- n of a line's numbers, from place `from` on
unfoldable pub cells : List ℤ → ℕ → ℕ → List ℤ
cells vals from n = tab n_max n (pos 0) (λ j. get_or vals (from + j) (pos 0))

-- "`inv` holds n times n numbers, row by row"
unfoldable pub rows_of : List ℤ → ℕ → List Row
rows_of vals n = tab n_max n zero_row (λ i. record { at = cells vals (i * n) n })

-- the first n numbers of a row, and zeros past them
abbrev pub live_row : ℕ → Row → Row
live_row n r = record { at = placed n_max n r.at }

-- m rows of n
unfoldable pub live_rows : ℕ → ℕ → List Row → List Row
live_rows n m rows = tab n_max m zero_row (λ i. live_row n (record { at = row_at rows i }))
