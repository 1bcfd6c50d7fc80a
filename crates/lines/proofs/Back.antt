-- A line of one number or more that is shown is read as the check of its values finds.
use Prim.Native.Nat.{ℕ, ◌+◌, ◌*◌, ◌≤◌, ◌<◌, ◌^◌}
use native.Mathlib.Omega.{arith}
use native.Mathlib.Nat.{zero-add}
use mathlib.Core.Path.{◌≡◌, sym, ap, ap₂, ◌∙◌}
use mathlib.Core.List.{List, [], ◌∷◌, ◌++◌}
use lib.ListN.{length, get_or, length-append, get_or-append}
use lib.Seq.{get_or_at}
use lib.IntN.{ℤ, pos}
use lib.Dec.{leb}
use borrow.Author.Tests.{le-leb, lt-leb, le-ltb, lt-ltb}
use Rattle.sizes.specs.Sizes.{n_max, number_max, visit_max, steps_max}
use Rattle.lists.proofs.Tab.{length-tab, tab-cong}
use Rattle.digits.proofs.Cases.{either}
use Rattle.text.specs.Lists.{places_max, show_list, Small}
use Rattle.text.specs.Words.{lo_key, hi_key, inv_key, row_key, job_key, visit_key, steps_key}
use Rattle.faults.specs.declared.Fault.{Fault}
use Rattle.faults.specs.Checked.{Finding}
use Rattle.faults.specs.Checks.{first_of, bad_unless}
use Rattle.checks.specs.Checks.{low_check, high_check, inverse_check, row_check, sided_check, number_check, steps_check}
use Rattle.checks.specs.CheckResult.{visit_check, counted_check}
use Rattle.jobs.specs.declared.Row.{Row}
use Rattle.reading.specs.Results.{after, passing}
use Rattle.reading.specs.NumberLines.{placed, row_line, count_line}
use Rattle.reading.proofs.NumberLines.{first-all, list-line-none, list-line-back, row-line-back, count-line-back}
use Rattle.digits.specs.Number.{digits_max}
use Rattle.lines.specs.Lines.{low_of, any_low_of, high_of, inverse_of, row_of, live_sided, sided_by, sided_of}
use Rattle.lines.specs.declared.Sided.{Sided}
use Rattle.lines.specs.Lines.{number_of, visit_of, steps_of}
use Rattle.lines.specs.Places.{cells, live_rows}
use Rattle.lines.specs.Texts.{row_text, matrix_list, inverse_text, sided_text, count_text}
use Rattle.lines.proofs.Checks.{count_none, count-over, live_at, low-live, high-live, row-live, sided-live}
use Rattle.lines.proofs.Squares.{square-fits}
use Rattle.lines.proofs.Rows.{square-some, matrix-first, rows_back, inverse-live}
use Rattle.std.specs.Prelude.{Ok}

-- ---- one number

-- against its limit
pub count-back : (f : Fault) (key : List ℕ) (most m : ℕ) → m < 10 ^ digits_max
    → count_line Fault.Spelling f key most (count_text key m) ≡ after (bad_unless (leb m most) f) (λ u. m)
unfolding bad_unless after
count-back f key most m s =
    rw (count-line-back Fault.Spelling f key most m s)
    (either most m (λ p. rw (lt-ltb most m p, lt-leb m most p)) (λ p. rw (le-ltb most m p, le-leb m most p)))

pub number-back : (m : ℕ) → m < 10 ^ digits_max
    → number_of (count_text job_key m) ≡ after (number_check m) (λ u. m)
unfolding number_of number_check
number-back = count-back Fault.Beyond job_key number_max

pub visit-back : (m : ℕ) → m < 10 ^ digits_max
    → visit_of (count_text visit_key m) ≡ after (visit_check m) (λ u. m)
unfolding visit_of visit_check
visit-back = count-back Fault.Beyond visit_key visit_max

pub steps_back : (m : ℕ) → m < 10 ^ digits_max
    → steps_of (count_text steps_key m) ≡ after (steps_check m) (λ u. m)
unfolding steps_of steps_check
steps_back = count-back Fault.Steps steps_key steps_max

-- ---- a list

pub any-low-back : (n : ℕ) (lo : List ℤ) → Small (placed n n lo)
    → any_low_of (row_text lo_key n lo)
    ≡ after (counted_check n lo) (λ u. record { count = n; row = placed n_max n lo })
unfolding any_low_of passing after counted_check first_of
any-low-back n lo small =
    either 0 n
    (λ some.
    let a = list-line-back Fault.Spelling lo_key n_max n lo some small (omega arith) in
    either n_max n
    (λ over. rw (a.1, count-over n over))
    (λ few. rw (a.1, a.2 few, low-live n_max n few lo)))
    (λ none. let e : n ≡ 0 = omega arith in rw (list-line-none Fault.Spelling lo_key n_max n lo e, e, count_none))

-- numbers that fill all places
full_back : (key : List ℕ) (n : ℕ) (xs : List ℤ) → 0 < n → n ≤ places_max → placed n n xs ≡ xs → Small xs
    → row_line Fault.Spelling key places_max n (key ++ show_list xs) ≡ Ok (placed places_max n xs)
full_back key n xs some few e small =
    ap (λ (ys : List ℤ). row_line Fault.Spelling key places_max n (key ++ show_list ys)) (sym e)
    ∙ row-line-back Fault.Spelling key places_max n xs some (rw e small) few (omega arith)

module _ (n : ℕ) (some : 0 < n) (few : n ≤ n_max) where
  pub low-back : (lo : List ℤ) → Small (placed n n lo)
      → low_of n (row_text lo_key n lo) ≡ after (low_check n lo) (λ u. placed n_max n lo)
  unfolding low_of passing
  low-back lo small =
      rw (row-line-back Fault.Spelling lo_key n_max n lo some small few (omega arith), low-live n_max n few lo)

  pub high-back : (lo hi : List ℤ) → Small (placed n n hi)
      → high_of n (placed n_max n lo) (row_text hi_key n hi) ≡ after (high_check n lo hi)
      (λ u. placed n_max n hi)
  unfolding high_of passing
  high-back lo hi small =
      rw (row-line-back Fault.Spelling hi_key n_max n hi some small few (omega arith), high-live n_max n few lo hi)

  pub inverse-back : (rows : List Row) → Small (matrix_list rows n)
      → inverse_of n (inverse_text n rows) ≡ after (inverse_check n rows) (λ u. live_rows n n rows)
  unfolding inverse_of passing after
  inverse-back rows small =
      rw (
        full_back inv_key (n * n) (matrix_list rows n) (square-some n some) (square-fits n few)
            (matrix-first n some few rows) small,
        rows_back n some few rows,
        inverse-live n some few rows,
      )

  pub row_back : (row : List ℤ) → Small (placed n n row)
      → row_of n (row_text row_key n row) ≡ after (row_check n row) (λ u. placed n_max n row)
  unfolding row_of passing
  row_back row small =
      rw (row-line-back Fault.Spelling row_key n_max n row some small few (omega arith), row-live n_max n few row)

  -- ---- a row with its right side

  module _ (row : List ℤ) (right : ℤ) where
    both : List ℤ
    both = placed n n row ++ (right ∷ [])

    row-long : length (placed n n row) ≡ n
    row-long = length-tab (pos 0) n n (λ i. get_or row i (pos 0))

    both_long : length both ≡ n + 1
    unfolding both
    both_long = length-append (placed n n row) (right ∷ []) ∙ ap (λ (m : ℕ). m + 1) row-long

    both_first : placed (n + 1) (n + 1) both ≡ both
    both_first = ap (λ (m : ℕ). placed m m both) (sym both_long) ∙ first-all both

    both_at : (k : ℕ) → k < n + 1 → get_or (placed places_max (n + 1) both) k (pos 0) ≡ get_or both k (pos 0)
    both_at k l = live_at places_max (n + 1) (omega arith) both k l

    sided-parts : sided_by (placed places_max (n + 1) both) n ≡ live_sided n (record { row = row; side = right })
    unfolding cells both
    sided-parts =
        ap₂ (λ (xs : List ℤ) (z : ℤ). record { row = xs; side = z })
        (tab-cong (pos 0) n_max n _ _ (λ k l.
        ap (λ (i : ℕ). get_or (placed places_max (n + 1) both) i (pos 0)) (zero-add k)
        ∙ both_at k (omega arith)
        ∙ get_or-append (placed n n row) (right ∷ []) (pos 0) k (omega (arith, row-long))
        ∙ live_at n n (omega arith) row k l))
        (both_at n (omega arith) ∙ get_or_at (placed n n row) right [] (pos 0) n row-long)

    pub sided-back : Small (placed n n row ++ (right ∷ []))
        → sided_of n (sided_text n row right)
        ≡ after (sided_check n row right) (λ u. live_sided n (record { row = row; side = right }))
    unfolding sided_of passing after both
    sided-back small =
        let x = live_sided n (record { row = row; side = right }) in
        rw (full_back row_key (n + 1) both (omega arith) (omega arith) both_first small)
        (ap (λ (y : Sided). after (sided_check n y.row y.side) (λ u. y)) sided-parts
        ∙ ap (λ (f : Finding). after f (λ u. x)) (sided-live n_max n few row right))
