-- Lists of items that a loop makes one after the other.
use Prim.Native.Nat.{ℕ, zero, suc, ◌+◌, ◌≤◌}
use native.Mathlib.Omega.{arith}
use native.Mathlib.Numerals.{add-one}
use mathlib.Core.Path.{◌≡◌, refl, sym, ap, ◌∙◌}
use mathlib.Core.List.{List, [], ◌∷◌, ◌++◌, append_assoc, append-nil}
use lib.ListN.{length}
use Rattle.digits.specs.Bytes.{comma}
use Rattle.lists.specs.Loops.{tab}
use Rattle.lists.proofs.Tab.{length-tab}
use Rattle.text.specs.Lists.{after_commas, joined}
use Rattle.writing.proofs.Lists.{after-snoc}
use Rattle.term_write.specs.ShowTerms.{comma_before}

tab-snoc : {A : Type 0} (d : A) (m : ℕ) (f : ℕ → A) → tab (suc m) (suc m) d f ≡ tab m m d f ++ (f m ∷ [])
unfolding tab
tab-snoc d zero f = refl
tab-snoc d (suc m) f = ap (λ (t : List _). f zero ∷ t) (tab-snoc d m (λ i. f (suc i)))

-- one item more
pub tab-next : {A : Type 0} (d : A) (m : ℕ) (f : ℕ → A) → tab (m + 1) (m + 1) d f ≡ tab m m d f ++ (f m ∷ [])
tab-next d m f = rw add-one (tab-snoc d m f)

pub tab-empty : {A : Type 0} (d : A) (f : ℕ → A) → tab 0 0 d f ≡ []
unfolding tab
tab-empty d f = refl

-- the last item stands after a comma, unless it is the first
pub joined_snoc : (xs : List (List ℕ)) (x : List ℕ)
    → joined (xs ++ (x ∷ [])) ≡ (joined xs ++ comma_before (length xs)) ++ x
unfolding joined after_commas comma_before
joined_snoc [] x = append-nil x
joined_snoc (y ∷ ys) x =
    ap (λ (l : List ℕ). y ++ l) (after-snoc ys x)
    ∙ sym (append_assoc y (after_commas ys ++ (comma ∷ [])) x)
    ∙ ap (λ (l : List ℕ). l ++ x) (sym (append_assoc y (after_commas ys) (comma ∷ [])))

pub joined-next : (m : ℕ) (f : ℕ → List ℕ)
    → joined (tab (m + 1) (m + 1) [] f) ≡ (joined (tab m m [] f) ++ comma_before m) ++ f m
joined-next m f =
    ap joined (tab-next [] m f) ∙ joined_snoc (tab m m [] f) (f m)
    ∙ ap (λ (k : ℕ). (joined (tab m m [] f) ++ comma_before k) ++ f m) (length-tab [] m m f)

pub comma-first : (i : ℕ) → i ≡ 0 → comma_before i ≡ []
unfolding comma_before
comma-first i e = rw e

pub comma-later : (i : ℕ) → (i ≡ 0 → ⊥) → comma_before i ≡ comma ∷ []
unfolding comma_before
comma-later zero n = absurd (n refl)
comma-later (suc i) n = refl

pub comma-short : (i : ℕ) → length (comma_before i) ≤ 1
unfolding comma_before
comma-short zero = omega arith
comma-short (suc i) = omega arith
