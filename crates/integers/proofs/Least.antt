-- Laws of the least and the greatest.
use mathlib.Core.Path.{◌≡◌, refl, ap}
use mathlib.Core.Bool.{Bool, true, false, cond}
use Prim.Native.Nat.{ℕ}
use lib.IntN.{ℤ, ◌*ℤ◌}
use lib.Signed.{◌≤ℤ◌, lt_z}
use Rattle.integers.specs.Least.{min_ℤ, max_ℤ, min4, max4}
use Rattle.integers.specs.Ranges.{Within}
use Rattle.integers.proofs.Parts.{zorder}
use Rattle.integers.proofs.Order.{lt_z-true, lt_z-false, above-l, above-r, below-l, below-r}

pub min-l : (a b : ℤ) → min_ℤ a b ≤ℤ a
unfolding min_ℤ
min-l a b = by (lt_z a b) refl
  where
    by : (t : Bool) → lt_z a b ≡ t → cond t a b ≤ℤ a
    by true e = omega zorder
    by false e = omega (zorder, lt_z-false a b e)

pub min-r : (a b : ℤ) → min_ℤ a b ≤ℤ b
unfolding min_ℤ
min-r a b = by (lt_z a b) refl
  where
    by : (t : Bool) → lt_z a b ≡ t → cond t a b ≤ℤ b
    by true e = omega (zorder, lt_z-true a b e)
    by false e = omega zorder

-- what holds of both holds of the least, and of the greatest
pub min-both {ℓ} : (Q : ℤ → Type ℓ) (a b : ℤ) → Q a → Q b → Q (min_ℤ a b)
unfolding min_ℤ
min-both Q a b x y = by (lt_z a b)
  where
    by : (t : Bool) → Q (cond t a b)
    by true = x
    by false = y

pub max-l : (a b : ℤ) → a ≤ℤ max_ℤ a b
unfolding max_ℤ
max-l a b = by (lt_z a b) refl
  where
    by : (t : Bool) → lt_z a b ≡ t → a ≤ℤ cond t b a
    by true e = omega (zorder, lt_z-true a b e)
    by false e = omega zorder

pub max-r : (a b : ℤ) → b ≤ℤ max_ℤ a b
unfolding max_ℤ
max-r a b = by (lt_z a b) refl
  where
    by : (t : Bool) → lt_z a b ≡ t → b ≤ℤ cond t b a
    by true e = omega zorder
    by false e = omega (zorder, lt_z-false a b e)

pub max-both {ℓ} : (Q : ℤ → Type ℓ) (a b : ℤ) → Q a → Q b → Q (max_ℤ a b)
unfolding max_ℤ
max-both Q a b x y = by (lt_z a b)
  where
    by : (t : Bool) → Q (cond t b a)
    by true = y
    by false = x

pub min-yes : (a b : ℤ) → lt_z a b ≡ true → min_ℤ a b ≡ a
unfolding min_ℤ
min-yes a b e = ap (λ (t : Bool). cond t a b) e

pub min-no : (a b : ℤ) → lt_z a b ≡ false → min_ℤ a b ≡ b
unfolding min_ℤ
min-no a b e = ap (λ (t : Bool). cond t a b) e

pub max-yes : (a b : ℤ) → lt_z a b ≡ true → max_ℤ a b ≡ b
unfolding max_ℤ
max-yes a b e = ap (λ (t : Bool). cond t b a) e

pub max-no : (a b : ℤ) → lt_z a b ≡ false → max_ℤ a b ≡ a
unfolding max_ℤ
max-no a b e = ap (λ (t : Bool). cond t b a) e

pub min4-1 : (a b c d : ℤ) → min4 a b c d ≤ℤ a
min4-1 a b c d = omega (zorder, min-l (min_ℤ a b) (min_ℤ c d), min-l a b)

pub min4-2 : (a b c d : ℤ) → min4 a b c d ≤ℤ b
min4-2 a b c d = omega (zorder, min-l (min_ℤ a b) (min_ℤ c d), min-r a b)

pub min4-3 : (a b c d : ℤ) → min4 a b c d ≤ℤ c
min4-3 a b c d = omega (zorder, min-r (min_ℤ a b) (min_ℤ c d), min-l c d)

pub min4-4 : (a b c d : ℤ) → min4 a b c d ≤ℤ d
min4-4 a b c d = omega (zorder, min-r (min_ℤ a b) (min_ℤ c d), min-r c d)

pub max4-1 : (a b c d : ℤ) → a ≤ℤ max4 a b c d
max4-1 a b c d = omega (zorder, max-l (max_ℤ a b) (max_ℤ c d), max-l a b)

pub max4-2 : (a b c d : ℤ) → b ≤ℤ max4 a b c d
max4-2 a b c d = omega (zorder, max-l (max_ℤ a b) (max_ℤ c d), max-r a b)

pub max4-3 : (a b c d : ℤ) → c ≤ℤ max4 a b c d
max4-3 a b c d = omega (zorder, max-r (max_ℤ a b) (max_ℤ c d), max-l c d)

pub max4-4 : (a b c d : ℤ) → d ≤ℤ max4 a b c d
max4-4 a b c d = omega (zorder, max-r (max_ℤ a b) (max_ℤ c d), max-r c d)

pub min4-within : {a b c d : ℤ} {B : ℕ} → Within a B → Within b B → Within c B → Within d B → Within (min4 a b c d) B
min4-within {a} {b} {c} {d} {B} p q r s =
    min-both (λ z. Within z B) (min_ℤ a b) (min_ℤ c d) (min-both (λ z. Within z B) a b p q)
    (min-both (λ z. Within z B) c d r s)

pub max4-within : {a b c d : ℤ} {B : ℕ} → Within a B → Within b B → Within c B → Within d B → Within (max4 a b c d) B
max4-within {a} {b} {c} {d} {B} p q r s =
    max-both (λ z. Within z B) (max_ℤ a b) (max_ℤ c d) (max-both (λ z. Within z B) a b p q)
    (max-both (λ z. Within z B) c d r s)

pub min4-greatest : (M p q r s : ℤ) → M ≤ℤ p → M ≤ℤ q → M ≤ℤ r → M ≤ℤ s → M ≤ℤ min4 p q r s
min4-greatest M p q r s h i j k =
    min-both (λ z. M ≤ℤ z) (min_ℤ p q) (min_ℤ r s) (min-both (λ z. M ≤ℤ z) p q h i) (min-both (λ z. M ≤ℤ z) r s j k)

pub max4-least : {M p q r s : ℤ} → p ≤ℤ M → q ≤ℤ M → r ≤ℤ M → s ≤ℤ M → max4 p q r s ≤ℤ M
max4-least {M} {p} {q} {r} {s} h i j k =
    max-both (λ z. z ≤ℤ M) (max_ℤ p q) (max_ℤ r s) (max-both (λ z. z ≤ℤ M) p q h i) (max-both (λ z. z ≤ℤ M) r s j k)

-- the product of two members is between the least and the greatest of the four
module _ {a b c d s t : ℤ} (p : a ≤ℤ s) (q : s ≤ℤ b) (u : c ≤ℤ t) (w : t ≤ℤ d) where
  pub min4-mul : min4 (a *ℤ c) (a *ℤ d) (b *ℤ c) (b *ℤ d) ≤ℤ (s *ℤ t)
  min4-mul = above-l s u w
      (above-r c p q (min4-1 (a *ℤ c) (a *ℤ d) (b *ℤ c) (b *ℤ d)) (min4-3 (a *ℤ c) (a *ℤ d) (b *ℤ c) (b *ℤ d)))
      (above-r d p q (min4-2 (a *ℤ c) (a *ℤ d) (b *ℤ c) (b *ℤ d)) (min4-4 (a *ℤ c) (a *ℤ d) (b *ℤ c) (b *ℤ d)))

  pub max4-mul : (s *ℤ t) ≤ℤ max4 (a *ℤ c) (a *ℤ d) (b *ℤ c) (b *ℤ d)
  max4-mul = below-l s u w
      (below-r c p q (max4-1 (a *ℤ c) (a *ℤ d) (b *ℤ c) (b *ℤ d)) (max4-3 (a *ℤ c) (a *ℤ d) (b *ℤ c) (b *ℤ d)))
      (below-r d p q (max4-2 (a *ℤ c) (a *ℤ d) (b *ℤ c) (b *ℤ d)) (max4-4 (a *ℤ c) (a *ℤ d) (b *ℤ c) (b *ℤ d)))
