-- What was made place by place reads back place by place.
use mathlib.Core.Path.{◌≡◌}
use mathlib.Core.List.{List, []}
use Prim.Native.Nat.{ℕ, ◌<◌, ◌≤◌}
use lib.ListN.{replicate}
use Rattle.sizes.specs.Sizes.{n_max}
use Rattle.lists.proofs.Tab.{get_or-tab}
use Rattle.intervals.specs.declared.Interval.{Interval}
use Rattle.intervals.specs.Interval.{zero_i}
use Rattle.intervals.specs.Places.{side_at, cell_at, vector_of, matrix_of}

module _ (n : ℕ) (room : n ≤ n_max) where
  pub side-made : (f : ℕ → Interval) {x : List Interval} → x ≡ vector_of n f → (k : ℕ) → k < n → side_at x k ≡ f k
  side-made f e k l = rw e (get_or-tab zero_i n_max n f zero_i k l room)

  pub cell-made : (f : ℕ → ℕ → Interval) {s : List (List Interval)} → s ≡ matrix_of n f → (i j : ℕ)
      → i < n → j < n → cell_at s i j ≡ f i j
  cell-made f e i j l m = rw (e, get_or-tab (replicate n_max zero_i) n_max n (λ i. vector_of n (f i)) [] i l room)
      (get_or-tab zero_i n_max n (f i) zero_i j m room)
