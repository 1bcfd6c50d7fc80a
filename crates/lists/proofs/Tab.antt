-- The laws of a list filled place by place, over its length m, the live places n, the filler d and the elements f.
use mathlib.Core.Path.{◌≡◌, refl, ap, ap₂}
use mathlib.Core.List.{List, ◌∷◌}
use Prim.Native.Nat.{ℕ, zero, suc, ◌+◌, ◌<◌, ◌≤◌, zero-le, suc-le-suc}
use native.Mathlib.Nat.{not-suc-le-zero, le_of_suc-le-suc, le_antisymm, le_trans}
use native.Mathlib.Numerals.{add-one}
use lib.ListN.{length, get_or, set, replicate, length-replicate}
use Rattle.lists.specs.Loops.{tab}

module _ {ℓ} {A : Type ℓ} (d : A) where
  pub length-tab : (m n : ℕ) (f : ℕ → A) → length (tab m n d f) ≡ m
  unfolding tab
  length-tab zero n f = refl
  length-tab (suc m) zero f = ap suc (length-replicate m d)
  length-tab (suc m) (suc n) f = ap suc (length-tab m n (λ i. f (suc i)))

  -- before the loop: nothing is filled
  pub tab-none : (m : ℕ) (f : ℕ → A) → replicate m d ≡ tab m 0 d f
  unfolding tab
  tab-none zero f = refl
  tab-none (suc m) f = refl

  tab-suc : (m n : ℕ) (f : ℕ → A) → n < m → set (tab m n d f) n (f n) ≡ tab m (suc n) d f
  unfolding tab
  tab-suc zero n f l = absurd (not-suc-le-zero l)
  tab-suc (suc m) zero f l = ap (λ (t : List A). f zero ∷ t) (tab-none m (λ i. f (suc i)))
  tab-suc (suc m) (suc n) f l = ap (λ (t : List A). f zero ∷ t) (tab-suc m n (λ i. f (suc i)) (le_of_suc-le-suc l))

  -- a turn: f n is stored at the first place that is not filled yet
  pub tab-more : (m n : ℕ) (f : ℕ → A) {s : List A} {v : A}
      → n < m → s ≡ tab m n d f → v ≡ f n → set s n v ≡ tab m (n + 1) d f
  tab-more m n f l e p = rw (e, p, add-one) (tab-suc m n f l)

  -- after the loop, as its test and its invariant leave the counter i
  pub tab-done : (m : ℕ) {i n : ℕ} (f : ℕ → A) {s : List A} → i ≤ n → n ≤ i → s ≡ tab m i d f → s ≡ tab m n d f
  tab-done m f h k e = rw (← le_antisymm h k) e

  -- a live place, whatever the reader's default e
  pub get_or-tab : (m n : ℕ) (f : ℕ → A) (e : A) (i : ℕ) → i < n → n ≤ m → get_or (tab m n d f) i e ≡ f i
  unfolding tab
  get_or-tab zero n f e i l h = absurd (not-suc-le-zero (le_trans l h))
  get_or-tab (suc m) zero f e i l h = absurd (not-suc-le-zero l)
  get_or-tab (suc m) (suc n) f e zero l h = refl
  get_or-tab (suc m) (suc n) f e (suc i) l h = get_or-tab m n (λ j. f (suc j)) e i (le_of_suc-le-suc l)
      (le_of_suc-le-suc h)

  -- only what stands below n counts
  pub tab-cong : (m n : ℕ) (f g : ℕ → A) → ((i : ℕ) → i < n → f i ≡ g i) → tab m n d f ≡ tab m n d g
  unfolding tab
  tab-cong zero n f g h = refl
  tab-cong (suc m) zero f g h = refl
  tab-cong (suc m) (suc n) f g h =
      ap₂ (λ (a : A) (t : List A). a ∷ t) (h zero (suc-le-suc zero-le))
      (tab-cong m n (λ i. f (suc i)) (λ i. g (suc i)) (λ i l. h (suc i) (suc-le-suc l)))
