-- The laws of a question asked of every place below n.
use mathlib.Core.Path.{◌≡◌, refl, ap, ap₂, sym, ◌∙◌}
use mathlib.Core.Bool.{Bool, true, false, ◌&&◌}
use Rattle.std.proofs.Common.{List, length, take, get_or}
use mathlib.Core.Logic.{⊎_elim}
use Prim.Native.Nat.{ℕ, zero, suc, ◌+◌, ◌<◌, ◌≤◌}
use native.Mathlib.Nat.{not-suc-le-zero, le_of_suc-le-suc, le_antisymm, eq-or-lt_of_le}
use native.Mathlib.Omega.{arith}
use native.Mathlib.Numerals.{add-one}
use Rattle.std.specs.List.{list_all}
use Rattle.std.proofs.lemmas.List.Folds.{list_all_more}
use Rattle.lists.specs.Loops.{both, all_b}

both-no : (a b : Bool) → b ≡ false → both a b ≡ false
both-no true b e = e
both-no false b e = refl

pub both-fst : (a b : Bool) → both a b ≡ true → a ≡ true
both-fst true b e = refl
both-fst false b e = e

pub both-snd : (a b : Bool) → both a b ≡ true → b ≡ true
both-snd true b e = e
both-snd false true e = refl
both-snd false false e = e

module _ (p : ℕ → Bool) where
  -- before the loop
  pub all_none : all_b 0 p ≡ true
  unfolding all_b
  all_none = refl

  -- a turn whose answer is yes
  pub all_more : (i : ℕ) → all_b i p ≡ true → p i ≡ true → all_b (i + 1) p ≡ true
  unfolding all_b
  all_more i h e = rw (add-one, h, e)

  -- after the loop
  pub all_done : {i n : ℕ} → i ≤ n → n ≤ i → all_b i p ≡ true → all_b n p ≡ true
  all_done h k e = rw (← le_antisymm h k) e

  -- a turn whose answer is no decides
  pub all-stop : (n i : ℕ) → i < n → p i ≡ false → all_b n p ≡ false
  unfolding all_b
  all-stop zero i l e = absurd (not-suc-le-zero l)
  all-stop (suc n) i l e =
      ⊎_elim (λ q. both-no (all_b n p) (p n) (ap p (sym q) ∙ e)) (λ lt. ap (λ t. both t (p n)) (all-stop n i lt e))
      (eq-or-lt_of_le (le_of_suc-le-suc l))

  -- what a yes says of each place
  pub all-each : (n i : ℕ) → i < n → all_b n p ≡ true → p i ≡ true
  unfolding all_b
  all-each zero i l e = absurd (not-suc-le-zero l)
  all-each (suc n) i l e =
      ⊎_elim (λ q. ap p q ∙ both-snd (all_b n p) (p n) e) (λ lt. all-each n i lt (both-fst (all_b n p) (p n) e))
      (eq-or-lt_of_le (le_of_suc-le-suc l))

-- only what stands below n counts
pub all-cong : (n : ℕ) (p q : ℕ → Bool) → ((i : ℕ) → i < n → p i ≡ q i) → all_b n p ≡ all_b n q
unfolding all_b
all-cong zero p q h = refl
all-cong (suc n) p q h = ap₂ both (all-cong n p q (λ i l. h i (omega arith))) (h n (omega arith))

pub both-and : (a b : Bool) → (a && b) ≡ both a b
both-and true b = refl
both-and false b = refl

-- the same question of the elements of a list
pub all-list : {X : Type 0} (q : X → Bool) (d : X) (xs : List X) (n : ℕ) → n ≤ length xs
    → list_all q (take n xs) ≡ all_b n (λ i. q (get_or xs i d))
unfolding all_b
all-list q d xs zero h = refl
all-list q d xs (suc n) h =
    ap (λ (k : ℕ). list_all q (take k xs)) (sym (add-one n))
    ∙ list_all_more q xs n d (omega arith)
    ∙ ap (λ (a : Bool). a && q (get_or xs n d)) (all-list q d xs n (omega arith))
    ∙ both-and (all_b n (λ i. q (get_or xs i d))) (q (get_or xs n d))
