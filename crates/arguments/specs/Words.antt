-- The pieces of a request's line: words between spaces, fields between commas.
use Rattle.std.specs.Prelude.{ℕ, ◌+◌, ◌≡◌, List, take, drop}
use Rattle.text.specs.Cut.{place_of}

abbrev pub space : ℕ
space = 32

-- the bytes before the first separator; all where there is none
unfoldable pub before : ℕ → List ℕ → List ℕ
before sep s = take (place_of sep s) s

-- the bytes behind it; none where there is none
unfoldable pub behind : ℕ → List ℕ → List ℕ
behind sep s = drop (place_of sep s + 1) s

-- the first word of s is `word`, and `tail` stands behind its space
pub record FirstWord (word tail s : List ℕ) : Type 0 where
  pub first : word ≡ before space s
  pub rest : tail ≡ behind space s
