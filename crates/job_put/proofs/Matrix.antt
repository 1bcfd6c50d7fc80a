-- The n times n numbers of a matrix, and a row with its right side.
use Prim.Native.Nat.{ℕ, ◌*◌, ◌≤◌, ◌<◌}
use native.Mathlib.Omega.{arith}
use mathlib.Core.Path.{◌≡◌, sym, ap, ◌∙◌}
use mathlib.Core.List.{List, [], ◌∷◌, ◌++◌, map, map-append, append_assoc}
use lib.ListN.{length, take, get_or}
use lib.IntN.{ℤ, pos}
use Rattle.sizes.specs.Sizes.{n_max}
use Rattle.lists.specs.Loops.{tab}
use Rattle.lists.proofs.Tab.{length-tab, get_or-tab, tab-cong}
use Rattle.digits.specs.Bytes.{comma}
use Rattle.digits.specs.Show.{show_number}
use Rattle.text.specs.Lists.{places_max, joined, show_all, show_list}
use Rattle.text.specs.Words.{row_key}
use Rattle.reading.specs.NumberLines.{placed}
use Rattle.writing.proofs.Lists.{taken-first}
use Rattle.term_write.specs.ShowTerms.{comma_before}
use Rattle.term_write.proofs.Joined.{joined_snoc}
use Rattle.jobs.specs.declared.Row.{Row}
use Rattle.lines.specs.Texts.{entry_of, matrix_list, sided_text}
use Rattle.lines.proofs.Squares.{square-fits}
use Rattle.lines.proofs.Rows.{matrix-long}

module _ (rows : List Row) (n : ℕ) (few : n ≤ n_max) where
  abbrev filled : List ℤ
  filled = tab places_max (n * n) (pos 0) (entry_of rows n)

  pub matrix-taken : {xs : List ℤ} → xs ≡ filled → take (n * n) xs ≡ matrix_list rows n
  unfolding matrix_list
  matrix-taken e =
      ap (take (n * n)) e
      ∙ taken-first (n * n) filled
      (omega (arith, length-tab (pos 0) places_max (n * n) (entry_of rows n), square-fits n few))
      ∙ tab-cong (pos 0) (n * n) (n * n) _ _ (λ k l.
      get_or-tab (pos 0) places_max (n * n) (entry_of rows n) (pos 0) k l (square-fits n few))

  pub matrix-prefix : {xs : List ℤ} → xs ≡ filled → n * n ≡ length (take (n * n) xs)
  matrix-prefix e = sym (ap length (matrix-taken e) ∙ matrix-long rows n)

-- one number more, after a comma
list-snoc : (xs : List ℤ) (v : ℤ) → 0 < length xs
    → show_list (xs ++ (v ∷ [])) ≡ (show_list xs ++ (comma ∷ [])) ++ show_number v
unfolding show_all comma_before
list-snoc [] v h = absurd (omega arith)
list-snoc (x ∷ xs) v h =
    ap joined (map-append show_number (x ∷ xs) (v ∷ [])) ∙ joined_snoc (map show_number (x ∷ xs)) (show_number v)

-- the line of a row with its right side, part by part
pub sided-parts : (n : ℕ) (row : List ℤ) (right : ℤ) → 0 < n
    → ((row_key ++ show_list (placed n n row)) ++ (comma ∷ [])) ++ show_number right ≡ sided_text n row right
sided-parts n row right h =
    let xs = placed n n row in
    let some : 0 < length xs = omega (arith, length-tab (pos 0) n n (λ i. get_or row i (pos 0))) in
    ap (λ (t : List ℕ). t ++ show_number right) (append_assoc row_key (show_list xs) (comma ∷ []))
    ∙ append_assoc row_key (show_list xs ++ (comma ∷ [])) (show_number right)
    ∙ ap (λ (t : List ℕ). row_key ++ t) (sym (list-snoc xs right some))
