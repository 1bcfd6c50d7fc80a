-- What document 01 asks before each verdict, of the box X and its image K, with ends compared.
use Rattle.std.specs.Prelude.{◌⊎◌, ℕ, ◌<◌, ◌≤ℤ◌, ◌<ℤ◌}
use Rattle.intervals.specs.declared.Interval.{Interval}

-- ---- one coordinate
-- one ends before the other begins
abbrev pub Apart : Interval → Interval → Type 0
Apart x k = (k.hi <ℤ x.lo) ⊎ (x.hi <ℤ k.lo)

-- "X low < K low and K high < X high"
abbrev pub Strict : Interval → Interval → Type 0
Strict x k = (x.lo <ℤ k.lo) × (k.hi <ℤ x.hi)

-- the cut of the two is x itself: x lies in k
abbrev pub Covered : Interval → Interval → Type 0
Covered x k = (k.lo ≤ℤ x.lo) × (x.hi ≤ℤ k.hi)

-- ---- all n
-- "some coordinate of K does not meet that of X": the intersection is empty
pub record Empty (n : ℕ) (X K : ℕ → Interval) : Type 0 where
  pub place : ℕ
  pub live : place < n
  pub apart : Apart (X place) (K place)

-- "in every coordinate, X low < K low and K high < X high": the image lies strictly inside
abbrev pub Strictly : ℕ → (ℕ → Interval) → (ℕ → Interval) → Type 0
Strictly n X K = (i : ℕ) → i < n → Strict (X i) (K i)

-- "K cut with X is X itself"
abbrev pub Unchanged : ℕ → (ℕ → Interval) → (ℕ → Interval) → Type 0
Unchanged n X K = (i : ℕ) → i < n → Covered (X i) (K i)
