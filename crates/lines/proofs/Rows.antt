-- The numbers of a line in the rows of a matrix, and back.
use Prim.Native.Nat.{ℕ, suc, ◌+◌, ◌*◌, ◌/◌, ◌%◌, ◌^◌, ◌≤◌, ◌<◌}
use native.Mathlib.Omega.{arith}
use native.Mathlib.Nat.{mul-le-mul, suc-mul, mod-lt, div-lt_iff_lt-mul, div-eq_of_lt, mod-eq_of_lt}
use native.Mathlib.Nat.{mul-add-div_right, mul-add-mod_self_right, add-zero, div-add-mod'}
use mathlib.Core.Path.{◌≡◌, ap, ap₂, ◌∙◌}
use mathlib.Core.List.{List, []}
use lib.ListN.{length, get_or}
use lib.IntN.{ℤ, pos}
use Rattle.sizes.specs.Sizes.{n_max, entry_max}
use Rattle.lists.proofs.All.{all-each, all-cong}
use Rattle.lists.proofs.Tab.{length-tab, get_or-tab, tab-cong}
use Rattle.digits.specs.Number.{digits_max}
use Rattle.text.specs.Lists.{places_max, Below, Small}
use Rattle.faults.specs.declared.Fault.{Fault}
use Rattle.faults.specs.Checks.{bad_unless}
use Rattle.faults.proofs.Laws.{unless-fine}
use Rattle.jobs.specs.Places.{row_at}
use Rattle.jobs.specs.Zero.{zero_row}
use Rattle.checks.specs.Accepted.{AllWithin}
use Rattle.checks.specs.Checks.{good_matrix, inverse_check}
use Rattle.term_checks.specs.Ranges.{all_within}
use Rattle.jobs.specs.declared.Row.{Row}
use Rattle.term_checks.proofs.RangeLaws.{all-within}
use Rattle.reading.specs.NumberLines.{placed}
use Rattle.reading.proofs.NumberLines.{below-tab}
use Rattle.lines.specs.Places.{cells, rows_of, live_rows}
use Rattle.lines.specs.Texts.{entry_of, matrix_list}
use Rattle.lines.proofs.Squares.{square-fits}
use Rattle.lines.proofs.Checks.{live_at, within-live}
use Rattle.std.specs.Prelude.{Ok}

-- n rows of n are not nothing
pub square-some : (n : ℕ) → 0 < n → 0 < n * n
square-some n h = mul-le-mul {n₁ = 1} {m₁ = 1} {n₂ = n} {m₂ = n} h h

pub matrix-long : (rows : List Row) (n : ℕ) → length (matrix_list rows n) ≡ n * n
unfolding matrix_list
matrix-long rows n = length-tab (pos 0) (n * n) (n * n) (entry_of rows n)

row-at : (rows : List Row) (n m i : ℕ) → i < m → m ≤ n_max
    → row_at (live_rows n m rows) i ≡ placed n_max n (row_at rows i)
unfolding live_rows
row-at rows n m i l h = ap (λ (r : Row). r.at) (get_or-tab zero_row n_max m _ (record { at = [] }) i l h)

module _ (n : ℕ) (some : 0 < n) (few : n ≤ n_max) where
  place-live : (i k : ℕ) → i < n → k < n → i * n + k < n * n
  place-live i k p q =
      let up : i * n + n ≤ n * n =
      rw (← suc-mul i n) (mul-le-mul {n₁ = suc i} {m₁ = n} {n₂ = n} {m₂ = n} p (omega arith)) in
      omega arith

  pub line-live : (k : ℕ) → k < n * n → k / n < n
  line-live k h = (div-lt_iff_lt-mul {k = n} {x = k} {y = n} some).1 h

  pub column-live : (k : ℕ) → k % n < n
  column-live k = mod-lt k {m = n} some

  -- ---- from the numbers to the rows

  module _ (vals : List ℤ) where
    line_at : (i : ℕ) → i < n → row_at (rows_of vals n) i ≡ cells vals (i * n) n
    unfolding rows_of
    line_at i l = ap (λ (r : Row). r.at) (get_or-tab zero_row n_max n _ (record { at = [] }) i l few)

    entry-was : (k : ℕ) → k < n * n → entry_of (rows_of vals n) n k ≡ get_or vals k (pos 0)
    unfolding entry_of cells
    entry-was k l =
        ap (λ (xs : List ℤ). get_or xs (k % n) (pos 0)) (line_at (k / n) (line-live k l))
        ∙ get_or-tab (pos 0) n_max n _ (pos 0) (k % n) (column-live k) few
        ∙ ap (λ (i : ℕ). get_or vals i (pos 0)) (div-add-mod' k n)

    pub matrix-was : matrix_list (rows_of vals n) n ≡ placed (n * n) (n * n) vals
    unfolding matrix_list
    matrix-was = tab-cong (pos 0) (n * n) (n * n) _ _ entry-was

    pub rows-live : live_rows n n (rows_of vals n) ≡ rows_of vals n
    unfolding live_rows rows_of cells
    rows-live =
        tab-cong zero_row n_max n _ _ (λ i l.
        ap (λ (xs : List ℤ). record { at = xs })
        (ap (placed n_max n) (line_at i l)
        ∙ tab-cong (pos 0) n_max n _ _ (λ k q. get_or-tab (pos 0) n_max n _ (pos 0) k q few)))

  -- ---- from the rows to the numbers

  module _ (rows : List Row) where
    entry-back : (i k : ℕ) → i < n → k < n → entry_of rows n (i * n + k) ≡ get_or (row_at rows i) k (pos 0)
    unfolding entry_of
    entry-back i k p q =
        ap₂ (λ (a b : ℕ). get_or (row_at rows a) b (pos 0))
        (mul-add-div_right {m = n} some i k ∙ ap (λ (d : ℕ). i + d) (div-eq_of_lt q) ∙ add-zero i)
        (mul-add-mod_self_right i n k ∙ mod-eq_of_lt q)

    matrix-at : (k : ℕ) → k < n * n → get_or (matrix_list rows n) k (pos 0) ≡ entry_of rows n k
    unfolding matrix_list
    matrix-at k l = get_or-tab (pos 0) (n * n) (n * n) (entry_of rows n) (pos 0) k l (omega arith)

    pub matrix-first : placed (n * n) (n * n) (matrix_list rows n) ≡ matrix_list rows n
    unfolding matrix_list
    matrix-first = tab-cong (pos 0) (n * n) (n * n) _ _ (λ k l. matrix-at k l)

    pub rows_back : rows_of (placed places_max (n * n) (matrix_list rows n)) n ≡ live_rows n n rows
    unfolding rows_of cells live_rows
    rows_back =
        tab-cong zero_row n_max n _ _ (λ i p.
        ap (λ (xs : List ℤ). record { at = xs }) (tab-cong (pos 0) n_max n _ _ (λ k q.
        live_at places_max (n * n) (square-fits n few) (matrix_list rows n) (i * n + k) (place-live i k p q)
        ∙ matrix-at (i * n + k) (place-live i k p q)
        ∙ entry-back i k p q)))

    pub inverse-live : inverse_check n (live_rows n n rows) ≡ inverse_check n rows
    unfolding inverse_check good_matrix
    inverse-live =
        ap (λ t. bad_unless t Fault.Beyond) (all-cong n _ _ (λ i l.
        ap (λ (xs : List ℤ). all_within xs n (pos entry_max)) (row-at rows n n i l few)
        ∙ within-live n_max n few (row_at rows i) (pos entry_max)))

    pub matrix-within : (d : ℕ) → entry_max < 10 ^ d → ((i : ℕ) → i < n → AllWithin (row_at rows i) n entry_max)
        → Below d (matrix_list rows n)
    unfolding matrix_list entry_of
    matrix-within d h w =
        below-tab d (n * n) (entry_of rows n) (λ k l.
        omega (arith, (w (k / n) (line-live k l) (k % n) (column-live k)).abs))

    pub matrix-small : inverse_check n rows ≡ Ok tt → Small (matrix_list rows n)
    unfolding inverse_check good_matrix
    matrix-small e =
        matrix-within digits_max (omega arith) (λ i l.
        all-within (row_at rows i) n entry_max (all-each _ n i l (unless-fine _ _ e)))
