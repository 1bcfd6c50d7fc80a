-- Lists that a loop fills place by place: the first i live places are new, the others old.
use mathlib.Core.Path.{◌≡◌, refl, sym, ap, ap₂, ◌∙◌}
use mathlib.Core.Bool.{Bool, true, false, cond}
use mathlib.Core.List.{List, ◌∷◌}
use Prim.Native.Nat.{ℕ, zero, suc, ◌+◌, ◌<◌, ◌≤◌}
use native.Mathlib.Nat.{le_of_suc-le-suc, not-suc-le-zero}
use native.Mathlib.Omega.{arith}
use lib.Dec.{ltb}
use lib.ListN.{set, replicate}
use borrow.Author.Tests.{ltb-true, ltb-false, lt-ltb, le-ltb}
use Rattle.lists.specs.Loops.{tab}
use Rattle.lists.proofs.Tab.{tab-cong}

module _ {ℓ} {A : Type ℓ} (d : A) where
  -- a list of fillers
  pub tab-same : (m n : ℕ) (f : ℕ → A) → ((k : ℕ) → d ≡ f k) → replicate m d ≡ tab m n d f
  unfolding tab
  tab-same zero n f h = refl
  tab-same (suc m) zero f h = refl
  tab-same (suc m) (suc n) f h =
      ap₂ (λ (a : A) (t : List A). a ∷ t) (h zero) (tab-same m n (λ i. f (suc i)) (λ k. h (suc k)))

  -- one live place is changed
  tab-put : (m n : ℕ) (f g : ℕ → A) (j : ℕ) → j < n → ((k : ℕ) → (k ≡ j → ⊥) → f k ≡ g k)
      → set (tab m n d f) j (g j) ≡ tab m n d g
  unfolding tab
  tab-put zero n f g j l h = refl
  tab-put (suc m) zero f g j l h = absurd (not-suc-le-zero l)
  tab-put (suc m) (suc n) f g zero l h =
      ap (λ (t : List A). g zero ∷ t) (tab-cong d m n _ _ (λ i _. h (suc i) (λ e. omega arith)))
  tab-put (suc m) (suc n) f g (suc j) l h =
      ap₂ (λ (a : A) (t : List A). a ∷ t) (h zero (λ e. omega arith))
      (tab-put m n (λ i. f (suc i)) (λ i. g (suc i)) j (le_of_suc-le-suc l) (λ k p. h (suc k) (λ e. p (omega arith))))

module _ {A : Type 0} (new old : ℕ → A) where
  pub mixed : ℕ → ℕ → A
  mixed i k = cond (ltb k i) (new k) (old k)

  pub mixed-new : (i k : ℕ) → k < i → mixed i k ≡ new k
  unfolding mixed
  mixed-new i k l = rw (lt-ltb k i l)

  pub mixed-old : (i k : ℕ) → i ≤ k → mixed i k ≡ old k
  unfolding mixed
  mixed-old i k l = rw (le-ltb k i l)

  -- place i alone is told apart by one turn more
  pub mixed-other : (i k : ℕ) → (k ≡ i → ⊥) → mixed i k ≡ mixed (i + 1) k
  mixed-other i k ne = by (ltb k i) refl
    where
      past : i ≤ k → i + 1 ≤ k
      past l = omega (arith, ne)

      by : (b : Bool) → ltb k i ≡ b → mixed i k ≡ mixed (i + 1) k
      by true e = let l = ltb-true k i e in mixed-new i k l ∙ sym (mixed-new (i + 1) k (omega arith))
      by false e = let l = ltb-false k i e in mixed-old i k l ∙ sym (mixed-old (i + 1) k (past l))

  module _ (d : A) (m n : ℕ) where
    -- before the loop, a turn, after it
    pub mixed-none : tab m n d old ≡ tab m n d (mixed 0)
    mixed-none = tab-cong d m n old (mixed 0) (λ k l. sym (mixed-old 0 k (omega arith)))

    pub mixed-more : {i : ℕ} {xs : List A} {v : A} → i < n → xs ≡ tab m n d (mixed i) → v ≡ new i
        → set xs i v ≡ tab m n d (mixed (i + 1))
    mixed-more {i} l e p =
        rw (e, p ∙ sym (mixed-new (i + 1) i (omega arith)))
        (tab-put d m n (mixed i) (mixed (i + 1)) i l (mixed-other i))

    pub mixed-done : {i : ℕ} → n ≤ i → tab m n d (mixed i) ≡ tab m n d new
    mixed-done {i} h = tab-cong d m n (mixed i) new (λ k l. mixed-new i k (omega arith))
