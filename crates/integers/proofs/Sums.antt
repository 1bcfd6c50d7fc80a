-- Laws of finite sums.
use mathlib.Core.Path.{◌≡◌, refl, sym, ◌∙◌}
use mathlib.Core.List.{[], ◌∷◌}
use Prim.Native.Nat.{ℕ, zero, suc, ◌<◌}
use native.Mathlib.Omega.{arith}
use lib.IntN.{ℤ, pos, ◌+ℤ◌, ◌-ℤ◌, ◌*ℤ◌, *ℤ_comm, *ℤ-zero}
use lib.Signed.{◌≤ℤ◌}
use Rattle.integers.specs.Sums.{sum_to}
use Rattle.integers.proofs.Parts.{zorder}
use Rattle.integers.proofs.Linear.{zlin}
use Rattle.integers.proofs.Ring.{◌⊕◌, ◌⊖◌, ◌⊗◌, ring}

pub sum-le : (n : ℕ) (f g : ℕ → ℤ) → ((k : ℕ) → k < n → f k ≤ℤ g k) → sum_to n f ≤ℤ sum_to n g
unfolding sum_to
sum-le zero f g h = omega zorder
sum-le (suc n) f g h =
    let r = sum-le n f g (λ k l. h k (omega arith)) in
    let e = h n (omega arith) in
    simp zlin (omega zorder)

pub sum-cong : (n : ℕ) (f g : ℕ → ℤ) → ((k : ℕ) → k < n → f k ≡ g k) → sum_to n f ≡ sum_to n g
unfolding sum_to
sum-cong zero f g h = refl
sum-cong (suc n) f g h =
    let r = sum-cong n f g (λ k l. h k (omega arith)) in
    let e = h n (omega arith) in
    cc

pub sum-add : (n : ℕ) (f g : ℕ → ℤ) → sum_to n (λ k. f k +ℤ g k) ≡ sum_to n f +ℤ sum_to n g
unfolding sum_to
sum-add zero f g = refl
sum-add (suc n) f g =
    rw (sum-add n f g) (ring (sum_to n f ∷ sum_to n g ∷ f n ∷ g n ∷ []) (λ a b c d. (a ⊕ b) ⊕ (c ⊕ d))
    (λ a b c d. (a ⊕ c) ⊕ (b ⊕ d)) refl)

pub sum-mul : (n : ℕ) (x : ℤ) (f : ℕ → ℤ) → sum_to n (λ k. x *ℤ f k) ≡ x *ℤ sum_to n f
unfolding sum_to
sum-mul zero x f = sym (*ℤ-zero x)
sum-mul (suc n) x f =
    rw (sum-mul n x f) (ring (x ∷ sum_to n f ∷ f n ∷ []) (λ x a b. x ⊗ a ⊕ x ⊗ b) (λ x a b. x ⊗ (a ⊕ b)) refl)

pub sum-sub : (n : ℕ) (f g : ℕ → ℤ) → sum_to n (λ k. f k -ℤ g k) ≡ sum_to n f -ℤ sum_to n g
unfolding sum_to
sum-sub zero f g = refl
sum-sub (suc n) f g =
    rw (sum-sub n f g) (ring (sum_to n f ∷ sum_to n g ∷ f n ∷ g n ∷ []) (λ a b c d. (a ⊖ b) ⊕ (c ⊖ d))
    (λ a b c d. (a ⊕ c) ⊖ (b ⊕ d)) refl)

pub sum-mul-r : (n : ℕ) (x : ℤ) (f : ℕ → ℤ) → sum_to n (λ k. f k *ℤ x) ≡ sum_to n f *ℤ x
sum-mul-r n x f =
    sum-cong n (λ k. f k *ℤ x) (λ k. x *ℤ f k) (λ k _. *ℤ_comm (f k) x) ∙ sum-mul n x f ∙ *ℤ_comm x (sum_to n f)

pub sum-none : (n : ℕ) → sum_to n (λ k. pos 0) ≡ pos 0
unfolding sum_to
sum-none zero = refl
sum-none (suc n) = rw (sum-none n) refl

pub sum-swap : (n m : ℕ) (f : ℕ → ℕ → ℤ) → sum_to n (λ i. sum_to m (λ j. f i j)) ≡ sum_to m (λ j. sum_to n (λ i. f i j))
unfolding sum_to
sum-swap zero m f = sym (sum-none m)
sum-swap (suc n) m f = rw (sum-swap n m f) (sym (sum-add m (λ j. sum_to n (λ i. f i j)) (λ j. f n j)))

-- (C S) x = C (S x), entry by entry
pub sum-assoc : (n : ℕ) (c : ℕ → ℤ) (s : ℕ → ℕ → ℤ) (x : ℕ → ℤ)
    → sum_to n (λ j. sum_to n (λ k. c k *ℤ s k j) *ℤ x j) ≡ sum_to n (λ k. c k *ℤ sum_to n (λ j. s k j *ℤ x j))
sum-assoc n c s x =
    sum-cong n (λ j. sum_to n (λ k. c k *ℤ s k j) *ℤ x j) (λ j. sum_to n (λ k. c k *ℤ (s k j *ℤ x j))) (λ j _. in-l j)
    ∙ sum-swap n n (λ j k. c k *ℤ (s k j *ℤ x j))
    ∙ sum-cong n (λ k. sum_to n (λ j. c k *ℤ (s k j *ℤ x j))) (λ k. c k *ℤ sum_to n (λ j. s k j *ℤ x j))
    (λ k _. sum-mul n (c k) (λ j. s k j *ℤ x j))
  where
    in-l : (j : ℕ) → sum_to n (λ k. c k *ℤ s k j) *ℤ x j ≡ sum_to n (λ k. c k *ℤ (s k j *ℤ x j))
    in-l j =
        *ℤ_comm (sum_to n (λ k. c k *ℤ s k j)) (x j) ∙ sym (sum-mul n (x j) (λ k. c k *ℤ s k j))
        ∙ sum-cong n (λ k. x j *ℤ (c k *ℤ s k j)) (λ k. c k *ℤ (s k j *ℤ x j))
        (λ k _. ring (x j ∷ c k ∷ s k j ∷ []) (λ x c s. x ⊗ (c ⊗ s)) (λ x c s. c ⊗ (s ⊗ x)) refl)
