-- A normaliser of polynomial expressions over the integers. `ring ρ e f refl` proves that e and f have the same value
-- at ρ where their normal forms are the same.
-- A monomial is the list of its variables in rising order, a polynomial a list of terms, coefficient and monomial, in
-- falling lexicographic order. Only the value is proved of each step; the order is what makes normal forms meet.
use mathlib.Core.Path.{◌≡◌, refl, sym, ap, ◌∙◌}
use mathlib.Core.List.{List, [], ◌∷◌}
use lib.ListN.{length}
use Prim.Native.Nat.{ℕ, zero, suc, compare, Ordering}
use lib.Dec.{T, compare_is_eq, eqb→eq}
use lib.IntN.{ℤ, pos, negsuc, neg_ℤ, ◌+ℤ◌, ◌-ℤ◌, ◌*ℤ◌, +ℤ_idl, +ℤ_idr, +ℤ_assoc, +ℤ_comm, *ℤ_comm, *ℤ-zero, zero-*ℤ}
use Rattle.integers.proofs.Commutative.{*ℤ-distrib-l, *ℤ-distrib-r, neg-*ℤ, *ℤ-assoc}
use Rattle.integers.proofs.Commutative.{one-*ℤ, *ℤ-left-comm, +ℤ-left-comm, swap4}

infixl 6 ◌⊕◌ ◌⊖◌
infixl 7 ◌⊗◌
pub data Ex : Type 0 where
  v : ℕ → Ex
  lit : ℤ → Ex
  ◌⊕◌ : Ex → Ex → Ex
  ◌⊖◌ : Ex → Ex → Ex
  ◌⊗◌ : Ex → Ex → Ex
  neg : Ex → Ex

-- the n-th of ρ, 0 past its end
abbrev pub at : List ℤ → ℕ → ℤ
at [] n = pos 0
at (x ∷ ρ) zero = x
at (x ∷ ρ) (suc n) = at ρ n

abbrev pub val : List ℤ → Ex → ℤ
val ρ (v i) = at ρ i
val ρ (lit k) = k
val ρ (e ⊕ f) = val ρ e +ℤ val ρ f
val ρ (e ⊖ f) = val ρ e -ℤ val ρ f
val ρ (e ⊗ f) = val ρ e *ℤ val ρ f
val ρ (neg e) = neg_ℤ (val ρ e)

-- ---- monomials
abbrev pub mval : List ℤ → List ℕ → ℤ
mval ρ [] = pos 1
mval ρ (i ∷ m) = at ρ i *ℤ mval ρ m

abbrev minto : ℕ → (List ℕ → List ℕ) → List ℕ → List ℕ
minto i rec [] = i ∷ rec []
minto i rec (j ∷ n) = elim (compare i j)
    [ Ordering.lt ↦ i ∷ rec (j ∷ n) | Ordering.eq ↦ i ∷ rec (j ∷ n) | Ordering.gt ↦ j ∷ minto i rec n ]

abbrev mmul : List ℕ → List ℕ → List ℕ
mmul [] n = n
mmul (i ∷ m) n = minto i (mmul m) n

-- longer first: the end of a list is greatest
abbrev mcmp : List ℕ → List ℕ → Ordering
mcmp [] [] = Ordering.eq
mcmp [] (j ∷ n) = Ordering.gt
mcmp (i ∷ m) [] = Ordering.lt
mcmp (i ∷ m) (j ∷ n) =
    elim (compare i j) [ Ordering.lt ↦ Ordering.lt | Ordering.eq ↦ mcmp m n | Ordering.gt ↦ Ordering.gt ]

module _ (ρ : List ℤ) where
  minto-val : (i : ℕ) (x : ℤ) (rec : List ℕ → List ℕ) → ((n : List ℕ) → mval ρ (rec n) ≡ x *ℤ mval ρ n) → (n : List ℕ)
      → mval ρ (minto i rec n) ≡ (at ρ i *ℤ x) *ℤ mval ρ n
  minto-val i x rec h [] = ap (λ (y : ℤ). at ρ i *ℤ y) (h []) ∙ sym (*ℤ-assoc (at ρ i) x (pos 1))
  minto-val i x rec h (j ∷ n) = go (compare i j) (minto-val i x rec h n)
    where
      here : at ρ i *ℤ mval ρ (rec (j ∷ n)) ≡ (at ρ i *ℤ x) *ℤ mval ρ (j ∷ n)
      here = ap (λ (y : ℤ). at ρ i *ℤ y) (h (j ∷ n)) ∙ sym (*ℤ-assoc (at ρ i) x (mval ρ (j ∷ n)))

      go : (o : Ordering) → mval ρ (minto i rec n) ≡ (at ρ i *ℤ x) *ℤ mval ρ n
          → mval ρ (elim o [
            | Ordering.lt ↦ i ∷ rec (j ∷ n)
            | Ordering.eq ↦ i ∷ rec (j ∷ n)
            | Ordering.gt ↦ j ∷ minto i rec n
          ]) ≡ (at ρ i *ℤ x) *ℤ mval ρ (j ∷ n)
      go Ordering.lt k = here
      go Ordering.eq k = here
      go Ordering.gt k = ap (λ (y : ℤ). at ρ j *ℤ y) k ∙ *ℤ-left-comm (at ρ j) (at ρ i *ℤ x) (mval ρ n)

  mmul-val : (m n : List ℕ) → mval ρ (mmul m n) ≡ mval ρ m *ℤ mval ρ n
  mmul-val [] n = sym (one-*ℤ (mval ρ n))
  mmul-val (i ∷ m) n = minto-val i (mval ρ m) (mmul m) (mmul-val m) n

abbrev IsEq : Ordering → Type 0
IsEq o = T (compare_is_eq o)

mcmp-eq : (m n : List ℕ) → IsEq (mcmp m n) → m ≡ n
mcmp-eq [] [] t = refl
mcmp-eq [] (j ∷ n) t = absurd t
mcmp-eq (i ∷ m) [] t = absurd t
mcmp-eq (i ∷ m) (j ∷ n) t = go (compare i j) (eqb→eq i j) (mcmp-eq m n) t
  where
    go : (o : Ordering) → (T (compare_is_eq o) → i ≡ j) → (IsEq (mcmp m n) → m ≡ n)
        → IsEq (elim o [ Ordering.lt ↦ Ordering.lt | Ordering.eq ↦ mcmp m n | Ordering.gt ↦ Ordering.gt ])
        → i ∷ m ≡ j ∷ n
    go Ordering.lt f g t = absurd t
    go Ordering.eq f g t = ap (λ (k : ℕ). k ∷ m) (f tt) ∙ ap (λ (l : List ℕ). j ∷ l) (g t)
    go Ordering.gt f g t = absurd t

-- ---- polynomials
pub data Poly : Type 0 where
  nil : Poly
  term : ℤ → List ℕ → Poly → Poly

abbrev pub pval : List ℤ → Poly → ℤ
pval ρ nil = pos 0
pval ρ (term c m p) = c *ℤ mval ρ m +ℤ pval ρ p

-- a term, left out where its coefficient is 0
abbrev keep : ℤ → List ℕ → Poly → Poly
keep (pos zero) m p = p
keep (pos (suc n)) m p = term (pos (suc n)) m p
keep (negsuc n) m p = term (negsuc n) m p

abbrev pinto : ℤ → List ℕ → (Poly → Poly) → Poly → Poly
pinto c m rec nil = term c m (rec nil)
pinto c m rec (term d n q) =
    elim (mcmp m n) [
      | Ordering.lt ↦ term c m (rec (term d n q))
      | Ordering.eq ↦ keep (c +ℤ d) n (rec q)
      | Ordering.gt ↦ term d n (pinto c m rec q)
    ]

abbrev padd : Poly → Poly → Poly
padd nil q = q
padd (term c m p) q = pinto c m (padd p) q

abbrev pscale : ℤ → List ℕ → Poly → Poly
pscale c m nil = nil
pscale c m (term d n q) = term (c *ℤ d) (mmul m n) (pscale c m q)

abbrev pmul : Poly → Poly → Poly
pmul nil q = nil
pmul (term c m p) q = padd (pscale c m q) (pmul p q)

abbrev pub norm : Ex → Poly
norm (v i) = term (pos 1) (i ∷ []) nil
norm (lit k) = keep k [] nil
norm (e ⊕ f) = padd (norm f) (norm e)
norm (e ⊖ f) = padd (pscale (negsuc 0) [] (norm f)) (norm e)
norm (e ⊗ f) = pmul (norm e) (norm f)
norm (neg e) = pscale (negsuc 0) [] (norm e)

module _ (ρ : List ℤ) where
  keep-val : (c : ℤ) (m : List ℕ) (p : Poly) → pval ρ (keep c m p) ≡ c *ℤ mval ρ m +ℤ pval ρ p
  keep-val (pos zero) m p = sym (ap (λ (y : ℤ). y +ℤ pval ρ p) (zero-*ℤ (mval ρ m)) ∙ +ℤ_idl (pval ρ p))
  keep-val (pos (suc n)) m p = refl
  keep-val (negsuc n) m p = refl

  pinto-val : (c : ℤ) (m : List ℕ) (x : ℤ) (rec : Poly → Poly)
      → ((q : Poly) → pval ρ (rec q) ≡ x +ℤ pval ρ q) → (q : Poly)
      → pval ρ (pinto c m rec q) ≡ (c *ℤ mval ρ m +ℤ x) +ℤ pval ρ q
  pinto-val c m x rec h nil = ap (λ (y : ℤ). c *ℤ mval ρ m +ℤ y) (h nil) ∙ sym (+ℤ_assoc (c *ℤ mval ρ m) x (pos 0))
  pinto-val c m x rec h (term d n q) = go (mcmp m n) (mcmp-eq m n) (pinto-val c m x rec h q)
    where
      go : (o : Ordering) → (IsEq o → m ≡ n) → pval ρ (pinto c m rec q) ≡ (c *ℤ mval ρ m +ℤ x) +ℤ pval ρ q
          → pval ρ (elim o [
            | Ordering.lt ↦ term c m (rec (term d n q))
            | Ordering.eq ↦ keep (c +ℤ d) n (rec q)
            | Ordering.gt ↦ term d n (pinto c m rec q)
          ]) ≡ (c *ℤ mval ρ m +ℤ x) +ℤ (d *ℤ mval ρ n +ℤ pval ρ q)
      go Ordering.lt f k = ap (λ (y : ℤ). c *ℤ mval ρ m +ℤ y) (h (term d n q))
          ∙ sym (+ℤ_assoc (c *ℤ mval ρ m) x (d *ℤ mval ρ n +ℤ pval ρ q))
      go Ordering.eq f k =
          keep-val (c +ℤ d) n (rec q) ∙ ap (λ (y : ℤ). (c +ℤ d) *ℤ mval ρ n +ℤ y) (h q)
          ∙ ap (λ (y : ℤ). y +ℤ (x +ℤ pval ρ q))
          (*ℤ-distrib-r c d (mval ρ n) ∙ ap (λ (l : List ℕ). c *ℤ mval ρ l +ℤ d *ℤ mval ρ n) (sym (f tt)))
          ∙ swap4 (c *ℤ mval ρ m) (d *ℤ mval ρ n) x (pval ρ q)
      go Ordering.gt f k =
          ap (λ (y : ℤ). d *ℤ mval ρ n +ℤ y) k ∙ +ℤ-left-comm (d *ℤ mval ρ n) (c *ℤ mval ρ m +ℤ x) (pval ρ q)

  padd-val : (p q : Poly) → pval ρ (padd p q) ≡ pval ρ p +ℤ pval ρ q
  padd-val nil q = sym (+ℤ_idl (pval ρ q))
  padd-val (term c m p) q = pinto-val c m (pval ρ p) (padd p) (padd-val p) q

  swap_mul : (a b c d : ℤ) → (a *ℤ b) *ℤ (c *ℤ d) ≡ (a *ℤ c) *ℤ (b *ℤ d)
  swap_mul a b c d = *ℤ-assoc a b (c *ℤ d) ∙ ap (λ (y : ℤ). a *ℤ y) (*ℤ-left-comm b c d) ∙ sym (*ℤ-assoc a c (b *ℤ d))

  pscale-val : (c : ℤ) (m : List ℕ) (q : Poly) → pval ρ (pscale c m q) ≡ (c *ℤ mval ρ m) *ℤ pval ρ q
  pscale-val c m nil = sym (*ℤ-zero (c *ℤ mval ρ m))
  pscale-val c m (term d n q) =
      ap (λ (y : ℤ). (c *ℤ d) *ℤ y +ℤ pval ρ (pscale c m q)) (mmul-val ρ m n)
      ∙ ap (λ (y : ℤ). y +ℤ pval ρ (pscale c m q)) (swap_mul c d (mval ρ m) (mval ρ n))
      ∙ ap (λ (y : ℤ). (c *ℤ mval ρ m) *ℤ (d *ℤ mval ρ n) +ℤ y) (pscale-val c m q)
      ∙ sym (*ℤ-distrib-l (c *ℤ mval ρ m) (d *ℤ mval ρ n) (pval ρ q))

  pmul-val : (p q : Poly) → pval ρ (pmul p q) ≡ pval ρ p *ℤ pval ρ q
  pmul-val nil q = sym (zero-*ℤ (pval ρ q))
  pmul-val (term c m p) q =
      padd-val (pscale c m q) (pmul p q) ∙ ap (λ (y : ℤ). y +ℤ pval ρ (pmul p q)) (pscale-val c m q)
      ∙ ap (λ (y : ℤ). (c *ℤ mval ρ m) *ℤ pval ρ q +ℤ y) (pmul-val p q)
      ∙ sym (*ℤ-distrib-r (c *ℤ mval ρ m) (pval ρ p) (pval ρ q))

  one-r : (x : ℤ) → x *ℤ pos 1 ≡ x
  one-r x = *ℤ_comm x (pos 1) ∙ one-*ℤ x

  minus_val : (p : Poly) → pval ρ (pscale (negsuc 0) [] p) ≡ neg_ℤ (pval ρ p)
  minus_val p = pscale-val (negsuc 0) [] p ∙ neg-*ℤ (pos 1) (pval ρ p) ∙ ap neg_ℤ (one-*ℤ (pval ρ p))

  pub norm-val : (e : Ex) → pval ρ (norm e) ≡ val ρ e
  norm-val (v i) = +ℤ_idr (pos 1 *ℤ (at ρ i *ℤ pos 1)) ∙ one-*ℤ (at ρ i *ℤ pos 1) ∙ one-r (at ρ i)
  norm-val (lit k) = keep-val k [] nil ∙ +ℤ_idr (k *ℤ pos 1) ∙ one-r k
  norm-val (e ⊕ f) =
      padd-val (norm f) (norm e) ∙ +ℤ_comm (pval ρ (norm f)) (pval ρ (norm e))
      ∙ ap (λ (y : ℤ). y +ℤ pval ρ (norm f)) (norm-val e)
      ∙ ap (λ (y : ℤ). val ρ e +ℤ y) (norm-val f)
  norm-val (e ⊖ f) =
      padd-val (pscale (negsuc 0) [] (norm f)) (norm e)
      ∙ +ℤ_comm (pval ρ (pscale (negsuc 0) [] (norm f))) (pval ρ (norm e))
      ∙ ap (λ (y : ℤ). y +ℤ pval ρ (pscale (negsuc 0) [] (norm f))) (norm-val e)
      ∙ ap (λ (y : ℤ). val ρ e +ℤ y) (minus_val (norm f) ∙ ap neg_ℤ (norm-val f))
  norm-val (e ⊗ f) = pmul-val (norm e) (norm f) ∙ ap (λ (y : ℤ). y *ℤ pval ρ (norm f)) (norm-val e)
      ∙ ap (λ (y : ℤ). val ρ e *ℤ y) (norm-val f)
  norm-val (neg e) = minus_val (norm e) ∙ ap neg_ℤ (norm-val e)

  ring_at : (e f : Ex) → norm e ≡ norm f → val ρ e ≡ val ρ f
  ring_at e f h = sym (norm-val e) ∙ ap (pval ρ) h ∙ norm-val f

-- ---- an expression as a function of its variables, `λ a b. a ⊗ b`
abbrev pub Over : ℕ → Type 0
Over zero = Ex
Over (suc k) = Ex → Over k

-- the variables are v i, v (i + 1), ..
abbrev pub named : (k i : ℕ) → Over k → Ex
named zero i e = e
named (suc k) i e = named k (suc i) (e (v i))

pub ring : (ρ : List ℤ) (l r : Over (length ρ)) → norm (named (length ρ) 0 l) ≡ norm (named (length ρ) 0 r)
    → val ρ (named (length ρ) 0 l) ≡ val ρ (named (length ρ) 0 r)
ring ρ l r eq = ring_at ρ (named (length ρ) 0 l) (named (length ρ) 0 r) eq
