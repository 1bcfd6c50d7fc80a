-- The order of the integers beside the product, and what a test of the code says.
use mathlib.Core.Path.{◌≡◌, refl, sym, subst}
use mathlib.Core.Bool.{Bool, true, false, not}
use mathlib.Core.Logic.{◌⊎◌, inl, inr, ⊎_elim}
use mathlib.Core.List.{[], ◌∷◌}
use Prim.Native.Nat.{suc, ◌*◌}
use native.Mathlib.Omega.{arith}
use lib.Dec.{T, le→leb}
use lib.IntN.{ℤ, pos, negsuc, ◌+ℤ◌, ◌-ℤ◌, ◌*ℤ◌, *ℤ_comm}
use lib.Signed.{◌≤ℤ◌, ◌<ℤ◌, le_z, lt_z, le_z_yes, lt_z_yes, lt_z_no}
use borrow.Author.Tests.{leb-false}
use Rattle.integers.proofs.Parts.{zorder}
use Rattle.integers.proofs.Linear.{zlin}
use Rattle.integers.proofs.Ring.{lit, ◌⊕◌, ◌⊖◌, ◌⊗◌, ring}

nonneg-mul' : (a b : ℤ) → T (le_z (pos 0) a) → T (le_z (pos 0) b) → T (le_z (pos 0) (a *ℤ b))
nonneg-mul' (pos a) (pos b) h k = le→leb 0 (a * b) (omega arith)
nonneg-mul' (pos a) (negsuc b) h k = absurd k
nonneg-mul' (negsuc a) b h k = absurd h

-- the product of two that are not negative
pub nonneg-mul : {a b : ℤ} → pos 0 ≤ℤ a → pos 0 ≤ℤ b → pos 0 ≤ℤ (a *ℤ b)
nonneg-mul {a} {b} h k = le_z_yes (nonneg-mul' a b h.le k.le)

pub square-nonneg : (a : ℤ) → pos 0 ≤ℤ (a *ℤ a)
square-nonneg (pos a) = le_z_yes (le→leb 0 (a * a) (omega arith))
square-nonneg (negsuc a) = le_z_yes (le→leb 0 (suc a * suc a) (omega arith))

-- y - x is e, and e is not negative
pub le-by : {x y e : ℤ} → (y -ℤ x) ≡ e → pos 0 ≤ℤ e → x ≤ℤ y
le-by {x} {y} {e} p h = omega (zorder, simp zlin at p)

pub diff-nonneg : {x y : ℤ} → x ≤ℤ y → pos 0 ≤ℤ (y -ℤ x)
diff-nonneg {x} {y} h = simp zlin (omega zorder)

-- a factor that is not negative
pub mul-mono-r : {a b c : ℤ} → a ≤ℤ b → pos 0 ≤ℤ c → (a *ℤ c) ≤ℤ (b *ℤ c)
mul-mono-r {a} {b} {c} h k =
    le-by (ring (a ∷ b ∷ c ∷ []) (λ a b c. b ⊗ c ⊖ a ⊗ c) (λ a b c. (b ⊖ a) ⊗ c) refl) (nonneg-mul (diff-nonneg h) k)

pub mul-mono-l : {a b c : ℤ} → a ≤ℤ b → pos 0 ≤ℤ c → (c *ℤ a) ≤ℤ (c *ℤ b)
mul-mono-l {a} {b} {c} h k =
    le-by (ring (a ∷ b ∷ c ∷ []) (λ a b c. c ⊗ b ⊖ c ⊗ a) (λ a b c. c ⊗ (b ⊖ a)) refl) (nonneg-mul k (diff-nonneg h))

pub nonneg : {a : ℤ} → pos 0 <ℤ a → pos 0 ≤ℤ a
nonneg h = omega zorder

pub pos-mul : {a b : ℤ} → pos 0 <ℤ a → pos 0 <ℤ b → pos 0 <ℤ (a *ℤ b)
pos-mul {a} {b} h k =
    let one : pos 1 ≤ℤ a = omega zorder in
    let two : (pos 1 *ℤ b) ≤ℤ (a *ℤ b) = mul-mono-r one (nonneg k) in
    omega (zorder, simp zlin at two)

-- a positive factor keeps a strict order
pub mul-lt-r : {a b c : ℤ} → a <ℤ b → pos 0 <ℤ c → (a *ℤ c) <ℤ (b *ℤ c)
mul-lt-r {a} {b} {c} h k =
    let less : pos 0 <ℤ (b -ℤ a) = simp zlin (omega zorder) in
    let e : b *ℤ c ≡ a *ℤ c +ℤ (b -ℤ a) *ℤ c =
    ring (a ∷ b ∷ c ∷ []) (λ a b c. b ⊗ c) (λ a b c. a ⊗ c ⊕ (b ⊖ a) ⊗ c) refl in
    rw e (simp zlin (omega (zorder, pos-mul less k)))

-- a factor that is not positive
pub mul-anti-r : {a b c : ℤ} → a ≤ℤ b → c ≤ℤ pos 0 → (b *ℤ c) ≤ℤ (a *ℤ c)
mul-anti-r {a} {b} {c} h k =
    le-by (ring (a ∷ b ∷ c ∷ []) (λ a b c. a ⊗ c ⊖ b ⊗ c) (λ a b c. (b ⊖ a) ⊗ (lit (pos 0) ⊖ c)) refl)
    (nonneg-mul (diff-nonneg h) (diff-nonneg k))

pub mul-anti-l : {a b c : ℤ} → a ≤ℤ b → c ≤ℤ pos 0 → (c *ℤ b) ≤ℤ (c *ℤ a)
mul-anti-l {a} {b} {c} h k =
    le-by (ring (a ∷ b ∷ c ∷ []) (λ a b c. c ⊗ a ⊖ c ⊗ b) (λ a b c. (b ⊖ a) ⊗ (lit (pos 0) ⊖ c)) refl)
    (nonneg-mul (diff-nonneg h) (diff-nonneg k))

-- a test on two numbers, as a branch leaves it
pub lt_z-true : (a b : ℤ) → lt_z a b ≡ true → a <ℤ b
lt_z-true a b e = lt_z_yes (subst T (sym e) tt)

pub lt_z-false : (a b : ℤ) → lt_z a b ≡ false → b ≤ℤ a
lt_z-false a b e = lt_z_no (subst (λ (t : Bool). T (not t)) (sym e) tt)

pub le_z-true : (a b : ℤ) → le_z a b ≡ true → a ≤ℤ b
le_z-true a b e = le_z_yes (subst T (sym e) tt)

pub le_z-false : (a b : ℤ) → le_z a b ≡ false → b <ℤ a
le_z-false (pos a) (pos b) e = omega (zorder, leb-false a b e)
le_z-false (pos a) (negsuc b) e = omega zorder
le_z-false (negsuc a) (pos b) e = absurd (subst (λ (t : Bool). T t) e tt)
le_z-false (negsuc a) (negsuc b) e = omega (zorder, leb-false b a e)

pub total_ℤ : (a b : ℤ) → (a ≤ℤ b) ⊎ (b <ℤ a)
total_ℤ a b = go (le_z a b) refl
  where
    go : (t : Bool) → le_z a b ≡ t → (a ≤ℤ b) ⊎ (b <ℤ a)
    go true e = inl (le_z-true a b e)
    go false e = inr (le_z-false a b e)

-- one factor fixed, the other between two ends: what is below both products at the ends is below the product
pub above-l : {M c d t : ℤ} (s : ℤ) → c ≤ℤ t → t ≤ℤ d → M ≤ℤ (s *ℤ c) → M ≤ℤ (s *ℤ d) → M ≤ℤ (s *ℤ t)
above-l s h k x y = ⊎_elim (λ w. omega (zorder, mul-mono-l h w))
    (λ w. let n : s ≤ℤ pos 0 = omega zorder in omega (zorder, mul-anti-l k n)) (total_ℤ (pos 0) s)

pub below-l : {M c d t : ℤ} (s : ℤ) → c ≤ℤ t → t ≤ℤ d → (s *ℤ c) ≤ℤ M → (s *ℤ d) ≤ℤ M → (s *ℤ t) ≤ℤ M
below-l s h k x y = ⊎_elim (λ w. omega (zorder, mul-mono-l k w))
    (λ w. let n : s ≤ℤ pos 0 = omega zorder in omega (zorder, mul-anti-l h n)) (total_ℤ (pos 0) s)

pub above-r : {M s a b : ℤ} (t : ℤ) → a ≤ℤ s → s ≤ℤ b → M ≤ℤ (a *ℤ t) → M ≤ℤ (b *ℤ t) → M ≤ℤ (s *ℤ t)
above-r {M} {s} {a} {b} t h k x y = rw (*ℤ_comm s t) (above-l t h k (rw (*ℤ_comm t a) x) (rw (*ℤ_comm t b) y))

pub below-r : {M s a b : ℤ} (t : ℤ) → a ≤ℤ s → s ≤ℤ b → (a *ℤ t) ≤ℤ M → (b *ℤ t) ≤ℤ M → (s *ℤ t) ≤ℤ M
below-r {M} {s} {a} {b} t h k x y = rw (*ℤ_comm s t) (below-l t h k (rw (*ℤ_comm t a) x) (rw (*ℤ_comm t b) y))

-- the other way: the test from the fact
pub le-le_z : (a b : ℤ) → a ≤ℤ b → le_z a b ≡ true
le-le_z a b h = is_true (le_z a b) h.le
  where
    is_true : (t : Bool) → T t → t ≡ true
    is_true true h = refl
    is_true false h = absurd h

pub lt-le_z : (a b : ℤ) → b <ℤ a → le_z a b ≡ false
lt-le_z a b h = by (le_z a b) refl
  where
    by : (t : Bool) → le_z a b ≡ t → t ≡ false
    by true e = absurd (no (le_z-true a b e))
      where
        no : a ≤ℤ b → ⊥
        no k = omega zorder
    by false e = refl

-- a positive factor on both sides
pub cancel-r : (a b w : ℤ) → pos 0 <ℤ w → (a *ℤ w) ≤ℤ (b *ℤ w) → a ≤ℤ b
cancel-r a b w p h = ⊎_elim (λ l. l) (λ l. absurd (no l)) (total_ℤ a b)
  where
    no : b <ℤ a → ⊥
    no l =
        let s : (b +ℤ pos 1) ≤ℤ a = simp zlin (omega zorder) in
        let w0 : pos 0 ≤ℤ w = omega zorder in
        let t : ((b +ℤ pos 1) *ℤ w) ≤ℤ (a *ℤ w) = mul-mono-r s w0 in
        let e : (b +ℤ pos 1) *ℤ w ≡ b *ℤ w +ℤ w =
        ring (b ∷ w ∷ []) (λ b w. (b ⊕ lit (pos 1)) ⊗ w) (λ b w. b ⊗ w ⊕ w) refl in
        let r : (b *ℤ w +ℤ w) ≤ℤ (a *ℤ w) = rw e at t in
        omega (zorder, simp zlin at r)
