-- A line that is refused, in its text.
use Rattle.std.specs.Prelude.{ℕ, ◌≤◌, List, length}
use Rattle.sizes.specs.Sizes.{n_max}
use Rattle.text_slips.specs.declared.Seen.{Seen}

-- the places of a line that is refused lie in its text
pub record Inside (t : List ℕ) (s : Seen) : Type 0 where
  pub start : s.at ≤ length t
  pub key : s.from ≤ length t
  pub low : s.low ≤ length t
  pub few : s.n ≤ n_max
