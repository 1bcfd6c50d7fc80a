-- Exact values of monomials at every fraction point, and of an equation whose terms are known monomials.
use mathlib.Core.Path.{◌≡◌, refl, sym, ap, ◌∙◌}
use mathlib.Core.List.{[], ◌∷◌}
use Prim.Native.Nat.{ℕ, zero, suc, ◌+◌, ◌-◌, ◌≤◌, ◌<◌}
use native.Mathlib.Omega.{arith}
use native.Mathlib.Nat.{not-suc-le-zero}
use native.Mathlib.Decide.{ℕ_discrete}
use lib.IntN.{ℤ, pos, ◌*ℤ◌}
use Rattle.sizes.specs.Sizes.{degree_max}
use Rattle.integers.specs.Sums.{sum_to}
use Rattle.integers.proofs.Commutative.{*ℤ-assoc, one-*ℤ}
use Rattle.integers.proofs.Ring.{◌⊗◌, ring}
use Rattle.integers.proofs.Sums.{sum-cong, sum-mul-r}
use Rattle.term_checks.specs.Terms.{degree}
use Rattle.lists.specs.Loops.{carry}
use Rattle.jobs.specs.declared.Equation.{Equation}
use Rattle.slopes.specs.Terms.{coef_of, exps_of}
use Rattle.slopes.specs.Fractions.{units_of, power, term_num, equation_num}
use Rattle.systems.specs.Kinds.{unit_e}
use Rattle.slopes.proofs.Factors.{times-one, power-one, power-add}
use Rattle.systems.proofs.Exponents.{unit-here, unit-other}
use Rattle.slopes.proofs.Degrees.{degree-cong, degree-add, degree-none}
use Rattle.slopes.proofs.Values.{raised}

-- at every point the product of the unknowns, as often as e says, is z over (65,536 d) to the power of k
pub record Monomial (n : ℕ) (e : ℕ → ℕ) (k : ℕ) (z : (ℕ → ℤ) → ℤ → ℤ) : Type 0 where
  pub deg : degree n e ≤ k
  pub num : (P : ℕ → ℤ) (d : ℤ) → term_num n (pos 1) e P *ℤ power (units_of d) (k - degree n e) ≡ z P d

-- ---- terms
module _ (P : ℕ → ℤ) where
  term-cong : (n : ℕ) (c : ℤ) (e f : ℕ → ℕ) → ((i : ℕ) → i < n → e i ≡ f i) → term_num n c e P ≡ term_num n c f P
  unfolding term_num
  term-cong zero c e f h = refl
  term-cong (suc n) c e f h = rw (term-cong n c e f (λ i l. h i (omega arith)), h n (omega arith))

  term-coef : (n : ℕ) (c : ℤ) (e : ℕ → ℕ) → term_num n c e P ≡ c *ℤ term_num n (pos 1) e P
  unfolding term_num
  term-coef zero c e = sym (times-one c)
  term-coef (suc n) c e = rw (term-coef n c e) (*ℤ-assoc c (term_num n (pos 1) e P) (power (P n) (e n)))

  term-add : (n : ℕ) (e f : ℕ → ℕ)
      → term_num n (pos 1) (λ i. e i + f i) P ≡ term_num n (pos 1) e P *ℤ term_num n (pos 1) f P
  unfolding term_num
  term-add zero e f = refl
  term-add (suc n) e f =
      rw (term-add n e f, power-add (P n) (e n) (f n) refl)
      (ring (term_num n (pos 1) e P ∷ term_num n (pos 1) f P ∷ power (P n) (e n) ∷ power (P n) (f n) ∷ [])
      (λ a b x y. (a ⊗ b) ⊗ (x ⊗ y)) (λ a b x y. (a ⊗ x) ⊗ (b ⊗ y)) refl)

  term-none : (n : ℕ) (c : ℤ) (e : ℕ → ℕ) → ((i : ℕ) → i < n → e i ≡ 0) → term_num n c e P ≡ c
  unfolding term_num power
  term-none zero c e h = refl
  term-none (suc n) c e h = rw (term-none n c e (λ i l. h i (omega arith)), h n (omega arith)) (times-one c)

-- ---- one unknown alone
pub unit-below : {n t : ℕ} → n ≤ t → (i : ℕ) → i < n → unit_e t i ≡ 0
unit-below h i l = unit-other _ _ (λ e. omega arith)

term-unit : (P : ℕ → ℤ) (n t : ℕ) → t < n → term_num n (pos 1) (unit_e t) P ≡ P t
unfolding term_num
term-unit P zero t l = absurd (not-suc-le-zero l)
term-unit P (suc n) t l = by (ℕ_discrete n t) (term-unit P n t)
  where
    by : Dec (n ≡ t) → (t < n → term_num n (pos 1) (unit_e t) P ≡ P t)
        → term_num n (pos 1) (unit_e t) P *ℤ power (P n) (unit_e t n) ≡ P t
    by (yes p) r = rw (term-none P n (pos 1) (unit_e t) (unit-below (omega arith)), unit-here t n p, power-one (P n))
        (one-*ℤ (P n) ∙ ap P p)
    by (no p) r = rw (r (omega arith), unit-other t n p) (unfold power in (times-one (P t)))

degree-unit : (n t : ℕ) → t < n → degree n (unit_e t) ≡ 1
unfolding degree carry
degree-unit zero t l = absurd (not-suc-le-zero l)
degree-unit (suc n) t l = by (ℕ_discrete n t) (degree-unit n t)
  where
    by : Dec (n ≡ t) → (t < n → degree n (unit_e t) ≡ 1) → degree n (unit_e t) + unit_e t n ≡ 1
    by (yes p) r = omega (arith, degree-none n (unit_e t) (unit-below (omega arith)), unit-here t n p)
    by (no p) r = omega (arith, r (omega arith), unit-other t n p)

-- ---- monomials
module _ {n : ℕ} where
  -- 1
  pub mono-one : {e : ℕ → ℕ} → ((i : ℕ) → i < n → e i ≡ 0) → Monomial n e 1 (λ P d. units_of d)
  mono-one {e} h = record {
    deg = omega (arith, degree-none n e h);
    num = λ P d. rw (term-none P n (pos 1) e h, degree-none n e h, power-one (units_of d)) (one-*ℤ (units_of d));
  }

  -- x(t)
  pub mono-unit : {t : ℕ} → t < n → Monomial n (unit_e t) 1 (λ P d. P t)
  unfolding power
  mono-unit {t} l = record {
    deg = omega (arith, degree-unit n t l);
    num = λ P d. rw (term-unit P n t l, degree-unit n t l) (times-one (P t));
  }

  pub mono-cong : {e f : ℕ → ℕ} {k : ℕ} {z : (ℕ → ℤ) → ℤ → ℤ} → ((i : ℕ) → i < n → e i ≡ f i)
      → Monomial n f k z → Monomial n e k z
  mono-cong {e} {f} h m = record {
    deg = rw (degree-cong n e f h) m.deg;
    num = λ P d. rw (term-cong P n (pos 1) e f h, degree-cong n e f h) (m.num P d);
  }

  -- the product of two
  pub mono-add : {e f : ℕ → ℕ} {k l : ℕ} {y z : (ℕ → ℤ) → ℤ → ℤ} → Monomial n e k y → Monomial n f l z
      → Monomial n (λ i. e i + f i) (k + l) (λ P d. y P d *ℤ z P d)
  mono-add {e} {f} {k} {l} {y} {z} a b = record {
    deg = omega (arith, degree-add n e f, a.deg, b.deg);
    num = λ P d.
        let split : k + l - degree n (λ i. e i + f i) ≡ (k - degree n e) + (l - degree n f) =
        omega (arith, degree-add n e f, a.deg, b.deg) in
        rw (term-add P n e f, power-add (units_of d) (k - degree n e) (l - degree n f) split, ← a.num P d, ← b.num P d)
        (ring (term_num n (pos 1) e P ∷ term_num n (pos 1) f P ∷ power (units_of d) (k - degree n e)
        ∷ power (units_of d) (l - degree n f) ∷ [])
        (λ s t x y. (s ⊗ t) ⊗ (x ⊗ y)) (λ s t x y. (s ⊗ x) ⊗ (t ⊗ y)) refl);
  }

  -- the same, over one power more
  pub mono-raise : {e : ℕ → ℕ} {k : ℕ} {z : (ℕ → ℤ) → ℤ → ℤ}
      → Monomial n e k z → Monomial n e (k + 1) (λ P d. z P d *ℤ units_of d)
  mono-raise {e} {k} m = record {
    deg = omega (arith, m.deg);
    num = λ P d.
        let split : k + 1 - degree n e ≡ (k - degree n e) + 1 = omega (arith, m.deg) in
        rw (power-add (units_of d) (k - degree n e) 1 split, power-one (units_of d), ← m.num P d)
        (sym (*ℤ-assoc (term_num n (pos 1) e P) (power (units_of d) (k - degree n e)) (units_of d)));
  }

-- ---- equations
-- at every point the equation, in marks, is v over (65,536 d) to the power of k
pub record Exact (n : ℕ) (q : Equation) (k : ℕ) (v : (ℕ → ℤ) → ℤ → ℤ) : Type 0 where
  pub deg : (t : ℕ) → t < q.count → degree n (exps_of q t) ≤ k
  pub num : (P : ℕ → ℤ) (d : ℤ) → equation_num n q P d ≡ v P d *ℤ power (units_of d) (degree_max - k)

-- where the monomial of each term t is z t
pub exact : {n : ℕ} (q : Equation) {k : ℕ} (z : ℕ → (ℕ → ℤ) → ℤ → ℤ)
    → k ≤ degree_max → ((t : ℕ) → t < q.count → Monomial n (exps_of q t) k (z t))
    → Exact n q k (λ P d. sum_to q.count (λ t. coef_of q t *ℤ z t P d))
exact {n} q {k} z cubic m = record {
  deg = λ t l. (m t l).deg;
  num = whole;
}
  where
    whole : (P : ℕ → ℤ) (d : ℤ)
        → equation_num n q P d ≡ sum_to q.count (λ t. coef_of q t *ℤ z t P d) *ℤ power (units_of d) (degree_max - k)
    whole P d = unfold equation_num in (
        sum-cong q.count (λ t. term_num n (coef_of q t) (exps_of q t) P *ℤ raised n q d t)
        (λ t. (coef_of q t *ℤ z t P d) *ℤ rest) one
        ∙ sum-mul-r q.count rest (λ t. coef_of q t *ℤ z t P d))
      where
        rest : ℤ
        rest = power (units_of d) (degree_max - k)

        one : (t : ℕ)
            → t < q.count → term_num n (coef_of q t) (exps_of q t) P *ℤ raised n q d t
            ≡ (coef_of q t *ℤ z t P d) *ℤ rest
        one t l =
            let g = degree n (exps_of q t) in
            let split : degree_max - g ≡ (k - g) + (degree_max - k) = omega (arith, (m t l).deg) in
            rw (
              term-coef P n (coef_of q t) (exps_of q t),
              power-add (units_of d) (k - g) (degree_max - k) split,
              ← (m t l).num P d,
            )
            (ring (coef_of q t ∷ term_num n (pos 1) (exps_of q t) P ∷ power (units_of d) (k - g) ∷ rest ∷ [])
            (λ c m x y. (c ⊗ m) ⊗ (x ⊗ y)) (λ c m x y. (c ⊗ (m ⊗ x)) ⊗ y) refl)

pub exact-cong : {n : ℕ} {q : Equation} {k : ℕ} {v w : (ℕ → ℤ) → ℤ → ℤ} → ((P : ℕ → ℤ) (d : ℤ) → v P d ≡ w P d)
    → Exact n q k v → Exact n q k w
exact-cong {k = k} h x = record {
  deg = x.deg;
  num = λ P d. x.num P d ∙ ap (λ (s : ℤ). s *ℤ power (units_of d) (degree_max - k)) (h P d);
}
