-- The limits of the numbers that say what is read so far.
use Rattle.std.specs.Prelude.{ℕ, ◌+◌, ◌≤◌, ◌<◌, List, Bool, ◌&&◌, length, leb}
use Rattle.sizes.specs.Sizes.{n_max}
use Rattle.faults.specs.Words.{fault_max}
use Rattle.reading.specs.Places.{line_end}
use Rattle.next_line.specs.declared.Read.{Read}

-- the place of the last line of a system, and the largest number that a line can be named by: one more than the last
-- of an eigenpair's with a pin
abbrev pub place_max : ℕ
place_max = 8 + n_max

abbrev pub line_max : ℕ
line_max = 9 + n_max

-- the last of the numbers of the kinds
abbrev pub kind_max : ℕ
kind_max = 2

unfoldable pub read_fits : Read → Bool
read_fits r =
    leb r.fault fault_max && leb r.line line_max && leb r.next place_max && leb r.kind kind_max
    && leb r.n n_max

-- what a line is read with: an LF ends it, and the numbers that its reading looks at are within their limits
pub record LineReady (r : Read) (bytes : List ℕ) : Type 0 where
  pub ends : line_end bytes 0 < length bytes
  pub kind : r.kind ≤ kind_max
  pub few : r.n ≤ n_max
