-- A line of numbers that is read is the one that is written for its value.
use Prim.Native.Nat.{ℕ, ◌+◌, ◌*◌, ◌≤◌, ◌<◌}
use native.Mathlib.Omega.{arith}
use native.Mathlib.Nat.{zero-add}
use mathlib.Core.Path.{◌≡◌, sym, ap, ◌∙◌}
use mathlib.Core.List.{List, [], ◌∷◌, ◌++◌}
use lib.ListN.{get_or}
use lib.IntN.{ℤ, pos}
use Rattle.sizes.specs.Sizes.{n_max}
use Rattle.lists.proofs.Tab.{get_or-tab, tab-cong}
use Rattle.text.specs.Lists.{places_max, show_list}
use Rattle.text.specs.Words.{lo_key, hi_key, inv_key, row_key}
use Rattle.term_write.proofs.Joined.{tab-next}
use Rattle.faults.specs.declared.Fault.{Fault}
use Rattle.faults.specs.Checked.{Finding}
use Rattle.checks.specs.Checks.{low_check, high_check, inverse_check, row_check, sided_check}
use Rattle.jobs.specs.declared.Row.{Row}
use Rattle.reading.specs.Results.{Told, passing}
use Rattle.reading.specs.NumberLines.{placed}
use Rattle.reading.proofs.Told.{told-map, told-after, told-passing}
use Rattle.reading.proofs.NumberLines.{row-line-told}
use Rattle.lines.specs.Lines.{numbers_of, low_of, high_of, inverse_of, row_of, live_sided, sided_of}
use Rattle.lines.specs.declared.Sided.{Sided}
use Rattle.lines.specs.Places.{cells, live_rows}
use Rattle.lines.specs.Texts.{row_text, inverse_text, sided_text}
use Rattle.lines.proofs.Was.{LineWas}
use Rattle.lines.proofs.Squares.{square-fits}
use Rattle.lines.proofs.Rows.{matrix-was, rows-live}

module _ (n : ℕ) (some : 0 < n) (few : n ≤ n_max) (l : List ℕ) where
  cells_told : (key : List ℕ) (check : List ℤ → Finding)
      → Told (LineWas (row_text key n) check (placed n_max n) l)
      (passing (numbers_of key n_max n l) (λ xs. check xs))
  cells_told key check =
      told-map _ (told-passing _ _ (row-line-told Fault.Spelling key l n_max (omega arith) n)) (λ xs e. record {
        shown = e.0.shown few;
        fine = e.1;
        whole = e.0.live few;
      })

  pub low_told : Told (LineWas (row_text lo_key n) (low_check n) (placed n_max n) l) (low_of n l)
  unfolding low_of
  low_told = cells_told lo_key (low_check n)

  pub high-told : (lo : List ℤ) → Told (LineWas (row_text hi_key n) (high_check n lo) (placed n_max n) l)
      (high_of n lo l)
  unfolding high_of
  high-told lo = cells_told hi_key (high_check n lo)

  pub row_told : Told (LineWas (row_text row_key n) (row_check n) (placed n_max n) l) (row_of n l)
  unfolding row_of
  row_told = cells_told row_key (row_check n)

  pub inverse-told : Told (LineWas (inverse_text n) (inverse_check n) (live_rows n n) l) (inverse_of n l)
  unfolding inverse_of
  inverse-told =
      told-map _
      (told-passing {P = λ (rows : List Row). (inverse_text n rows ≡ l) × (live_rows n n rows ≡ rows)} _ _
      (told-after _ _ (row-line-told Fault.Spelling inv_key l places_max (omega arith) (n * n)) (λ vals e. (
        ap (λ (xs : List ℤ). inv_key ++ show_list xs) (matrix-was n some few vals) ∙ e.shown (square-fits n few),
        rows-live n some few vals,
      ))))
      (λ rows e. record { shown = e.0.0; fine = e.1; whole = e.0.1 })

  -- ---- a row with its right side

  module _ (vals : List ℤ) where
    row-was : placed n n (cells vals 0 n) ≡ placed n n vals
    unfolding cells
    row-was =
        tab-cong (pos 0) n n _ _ (λ k q.
        get_or-tab (pos 0) n_max n _ (pos 0) k q few ∙ ap (λ (i : ℕ). get_or vals i (pos 0)) (zero-add k))

    cells-live : placed n_max n (cells vals 0 n) ≡ cells vals 0 n
    unfolding cells
    cells-live = tab-cong (pos 0) n_max n _ _ (λ k q. get_or-tab (pos 0) n_max n _ (pos 0) k q few)

    sided-was : placed n n (cells vals 0 n) ++ (get_or vals n (pos 0) ∷ []) ≡ placed (n + 1) (n + 1) vals
    sided-was =
        ap (λ (xs : List ℤ). xs ++ (get_or vals n (pos 0) ∷ [])) row-was
        ∙ sym (tab-next (pos 0) n (λ i. get_or vals i (pos 0)))

  pub sided-told : Told (LineWas (λ (x : Sided). sided_text n x.row x.side) (λ x. sided_check n x.row x.side)
      (live_sided n) l) (sided_of n l)
  unfolding sided_of
  sided-told =
      told-map _
      (told-passing {P = λ (x : Sided). (sided_text n x.row x.side ≡ l) × (live_sided n x ≡ x)} _ _
      (told-after _ _ (row-line-told Fault.Spelling row_key l places_max (omega arith) (n + 1)) (λ vals e. (
        ap (λ (xs : List ℤ). row_key ++ show_list xs) (sided-was vals) ∙ e.shown (omega arith),
        ap (λ (xs : List ℤ). record { row = xs; side = get_or vals n (pos 0) }) (cells-live vals),
      ))))
      (λ x e. record { shown = e.0.0; fine = e.1; whole = e.0.1 })
