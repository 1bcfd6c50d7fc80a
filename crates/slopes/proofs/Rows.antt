-- A row of sums to which a loop adds one summand after another, place by place.
use mathlib.Core.Path.{◌≡◌, refl, sym, ap, ◌∙◌}
use mathlib.Core.List.{List}
use Prim.Native.Nat.{ℕ, zero, suc, ◌+◌, ◌<◌, ◌≤◌}
use native.Mathlib.Decide.{ℕ_discrete}
use mathlib.Core.Logic.{⊎_elim}
use native.Mathlib.Nat.{le_antisymm, le_of_suc-le-suc, le_refl, eq-or-lt_of_le}
use native.Mathlib.Numerals.{add-one}
use native.Mathlib.Omega.{arith}
use lib.IntN.{+ℤ_idr}
use lib.ListN.{set, replicate}
use Rattle.sizes.specs.Sizes.{n_max}
use Rattle.lists.specs.Loops.{carry}
use Rattle.lists.proofs.Tab.{tab-cong}
use Rattle.intervals.specs.Interval.{zero_i, add_i, sum_i}
use Rattle.intervals.specs.Places.{side_at, vector_of}
use Rattle.intervals.proofs.Ends.{ends}
use Rattle.intervals.proofs.Places.{side-made}
use Rattle.intervals.proofs.Sums.{sum_i-more}
use Rattle.intervals.specs.declared.Interval.{Interval}
use Rattle.slopes.proofs.Mixed.{tab-same, mixed, mixed-new, mixed-old, mixed-other}
use Rattle.slopes.proofs.Mixed.{mixed-none, mixed-more, mixed-done}

add_none : (a : Interval) → a ≡ add_i a zero_i
unfolding add_i
add_none a = ends (sym (+ℤ_idr a.lo)) (sym (+ℤ_idr a.hi))

-- the row of the sums of the first i summands
abbrev pub totals : ℕ → (ℕ → ℕ → Interval) → ℕ → List Interval
totals n g i = vector_of n (λ m. sum_i i (g m))

pub row-none : (n : ℕ) (g : ℕ → ℕ → Interval) → replicate n_max zero_i ≡ totals n g 0
unfolding sum_i carry
row-none n g = tab-same zero_i n_max n (λ m. sum_i 0 (g m)) (λ k. refl)

pub row_done : (n : ℕ) (g : ℕ → ℕ → Interval) {i count : ℕ} {s : List Interval}
    → i ≤ count → count ≤ i → s ≡ totals n g i → s ≡ totals n g count
row_done n g h k e = rw (← le_antisymm h k) e

module _ (n : ℕ) (g : ℕ → ℕ → Interval) (i : ℕ) where
  abbrev after : ℕ → Interval
  after m = sum_i (i + 1) (g m)

  abbrev before : ℕ → Interval
  before m = sum_i i (g m)

  -- the places below j have summand i already
  abbrev pub partly : ℕ → List Interval
  partly j = vector_of n (mixed after before j)

  module _ {s : List Interval} where
    pub row-start : s ≡ totals n g i → s ≡ partly 0
    row-start e = e ∙ mixed-none after before zero_i n_max n

    pub row-end : (j : ℕ) → n ≤ j → s ≡ partly j → s ≡ totals n g (i + 1)
    row-end j h e = e ∙ mixed-done after before zero_i n_max n h

    module _ (j : ℕ) (l : j < n) (e : s ≡ partly j) where
      pub row_read : n ≤ n_max → side_at s j ≡ sum_i i (g j)
      row_read room = side-made n room (mixed after before j) e j l ∙ mixed-old after before j j (le_refl j)

      pub row_put : {v : Interval} → v ≡ sum_i (i + 1) (g j) → set s j v ≡ partly (j + 1)
      row_put p = mixed-more after before zero_i n_max n l e p

      -- a summand of zero changes nothing
      pub row_keep : g j i ≡ zero_i → s ≡ partly (j + 1)
      row_keep z =
          e ∙ tab-cong zero_i n_max n (mixed after before j) (mixed after before (j + 1)) (λ m _. at m (ℕ_discrete m j))
        where
          at : (m : ℕ) → Dec (m ≡ j) → mixed after before j m ≡ mixed after before (j + 1) m
          at m (no ne) = mixed-other after before j m ne
          at m (yes p) =
              rw p
              (mixed-old after before j j (le_refl j)
              ∙ sum_i-more (g j) i (add_none (sum_i i (g j))) refl (sym z)
              ∙ sym (mixed-new after before (j + 1) j (omega arith)))

    -- nor do summands of zero from j up to k
    pub row-skip : (j k : ℕ) → j ≤ k → k ≤ n → ((m : ℕ) → j ≤ m → m < k → g m i ≡ zero_i) → s ≡ partly j → s ≡ partly k
    row-skip j zero h few z e = e ∙ ap partly (omega arith)
    row-skip j (suc k) h few z e =
        ⊎_elim
        (λ q. e ∙ ap partly q)
        (λ l. rw (← add-one k)
        (row_keep k few (row-skip j k (le_of_suc-le-suc l) (omega arith) (λ m b p. z m b (omega arith)) e)
        (z k (omega arith) (omega arith))))
        (eq-or-lt_of_le h)
