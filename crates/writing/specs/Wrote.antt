-- What a writer does to a buffer.
use Rattle.std.specs.Prelude.{ℕ, ◌+◌, ◌*◌, ◌≤◌, ◌<◌, ◌≡◌, List, [], ◌∷◌, ◌++◌, length, ℤ}
use Rattle.std.proofs.lemmas.List.Edits.{sets}
use Rattle.sizes.specs.Sizes.{n_max}
use Rattle.digits.specs.Bytes.{line_feed}
use Rattle.digits.specs.Number.{long_max}
use Rattle.text.specs.Lists.{Below}
use Rattle.reading.specs.NumberLines.{placed}

-- no text reaches this place, and a usize holds far more
abbrev pub place_max : ℕ
place_max = 1000000

-- the bytes bs stand from `at` on, as far as there is room; every other byte is the old one; r is the place after them
pub record Wrote (old new : List ℕ) (at r : ℕ) (bs : List ℕ) : Type 0 where
  pub next : r ≡ at + length bs
  pub text : new ≡ sets old at bs

-- "Lines end in one LF"
unfoldable pub line : List ℕ → List ℕ
line l = l ++ (line_feed ∷ [])

-- what the writer of a row of n numbers of at most k digits each relies on
pub record RowFits (at : ℕ) (key : List ℕ) (row : List ℤ) (n k : ℕ) : Type 0 where
  pub few : n ≤ n_max
  pub wide : k ≤ long_max
  pub room : at + length key + (k + 2) * (1 + n_max) < place_max
  pub small : Below k (placed n n row)
