-- Document 01, "The three kinds": "At every fraction point the built equations equal these formulas exactly." Their
-- terms have degree 1 and 2 at most.
use mathlib.Core.Path.{◌≡◌, refl, sym, ap, subst, ◌∙◌}
use mathlib.Core.Bool.{false, cond}
use mathlib.Core.List.{[], ◌∷◌}
use Prim.Native.Nat.{ℕ, suc, ◌+◌, ◌-◌, ◌≤◌, ◌<◌}
use native.Mathlib.Omega.{arith}
use native.Mathlib.Numerals.{add-one}
use native.Mathlib.Decide.{ℕ_discrete}
use lib.Dec.{eqb, ltb}
use lib.IntN.{ℤ, pos, neg_ℤ, ◌+ℤ◌, ◌-ℤ◌, ◌*ℤ◌}
use lib.ListN.{get_or}
use borrow.Author.Tests.{lt-ltb, le-ltb, eq-eqb, ne_eqb}
use Rattle.sizes.specs.Sizes.{n_max, terms_max, degree_max}
use Rattle.lists.specs.Loops.{tab}
use Rattle.lists.proofs.Tab.{get_or-tab}
use Rattle.integers.specs.Sums.{sum_to}
use Rattle.integers.proofs.Commutative.{*ℤ-assoc}
use Rattle.integers.proofs.Ring.{neg, ◌⊕◌, ◌⊖◌, ◌⊗◌, ring}
use Rattle.integers.proofs.Sums.{sum-cong, sum-mul-r}
use Rattle.intervals.specs.Interval.{mark}
use Rattle.intervals.specs.Places.{number_at}
use Rattle.jobs.specs.Places.{no_term}
use Rattle.checks.specs.Accepted.{GoodPin}
use Rattle.jobs.specs.declared.Kind.{Kind}
use Rattle.jobs.specs.declared.Term.{Term}
use Rattle.jobs.specs.declared.Equation.{Equation}
use Rattle.jobs.specs.declared.Job.{Job}
use Rattle.slopes.specs.Terms.{coef_of, exps_of}
use Rattle.slopes.specs.Fractions.{units_of, power, DegreesIn, equation_num}
use Rattle.systems.specs.Kinds.{unit_e, vector_e, eigen_e, row_coef, build, linear_equation}
use Rattle.systems.specs.Kinds.{eigen_equation, pinned, row_of, equation_by, equation_of}
use Rattle.systems.specs.Formulas.{linear_num, coordinate, eigen_num, formula_by, formula_num}
use Rattle.systems.proofs.Monomials.{Monomial, mono-one, mono-unit, mono-cong, mono-add}
use Rattle.systems.proofs.Monomials.{mono-raise, unit-below, Exact, exact, exact-cong}

sum_more : (n : ℕ) (f : ℕ → ℤ) → sum_to (n + 1) f ≡ sum_to n f +ℤ f n
unfolding sum_to
sum_more n f = rw add-one

not-below : (n : ℕ) → ltb n n ≡ false
not-below n = let le : n ≤ n = omega arith in le-ltb n n le

-- ---- a built equation: n terms with coefficients a and monomials y, then one with coefficient -b and monomial z
module _ (n : ℕ) (room : n ≤ n_max) (a : ℕ → ℤ) (b : ℤ) (e : ℕ → ℕ → ℕ) where
  abbrev coefs : ℕ → ℤ
  coefs = row_coef n a b

  abbrev q : Equation
  q = build n coefs e

  built-term : (t : ℕ) → t < n + 1 → get_or q.terms t no_term ≡ record { coef = coefs t; exps = tab n_max n 0 (e t) }
  built-term t l =
      get_or-tab _ terms_max (n + 1) (λ t. record { coef = coefs t; exps = tab n_max n 0 (e t) }) no_term t l
      (omega arith)

  pub built-coef : (t : ℕ) → t < n + 1 → coef_of q t ≡ coefs t
  built-coef t l = ap (λ (r : Term). r.coef) (built-term t l)

  built-exps : (t : ℕ) → t < n + 1 → (i : ℕ) → i < n → exps_of q t i ≡ e t i
  built-exps t l i h = ap (λ (r : Term). get_or r.exps i 0) (built-term t l) ∙ get_or-tab 0 n_max n (e t) 0 i h room

  built : {k : ℕ} (y : ℕ → (ℕ → ℤ) → ℤ → ℤ) (z : (ℕ → ℤ) → ℤ → ℤ) → k ≤ degree_max
      → ((t : ℕ) → t < n → Monomial n (e t) k (y t)) → Monomial n (e n) k z
      → Exact n q k (λ P d. sum_to n (λ t. a t *ℤ y t P d) +ℤ neg_ℤ b *ℤ z P d)
  built {k} y z cubic row last = exact-cong sums (exact q value cubic monomial)
    where
      value : ℕ → (ℕ → ℤ) → ℤ → ℤ
      value t = cond (ltb t n) (y t) z

      end : Monomial n (e n) k (value n)
      end = rw (not-below n) last

      monomial : (t : ℕ) → t < n + 1 → Monomial n (exps_of q t) k (value t)
      monomial t l = mono-cong (built-exps t l) (by (ℕ_discrete t n))
        where
          by : Dec (t ≡ n) → Monomial n (e t) k (value t)
          by (yes p) = subst (λ (s : ℕ). Monomial n (e s) k (value s)) (sym p) end
          by (no p) = let below : t < n = omega arith in rw (lt-ltb t n below) (row t below)

      sums : (P : ℕ → ℤ) (d : ℤ)
          → sum_to (n + 1) (λ t. coef_of q t *ℤ value t P d) ≡ sum_to n (λ t. a t *ℤ y t P d) +ℤ neg_ℤ b *ℤ z P d
      sums P d = sum_more n f ∙ rw (sum-cong n f (λ t. a t *ℤ y t P d) early, final)
        where
          f : ℕ → ℤ
          f t = coef_of q t *ℤ value t P d

          early : (t : ℕ) → t < n → f t ≡ a t *ℤ y t P d
          early t l = rw (built-coef t (omega arith), lt-ltb t n l)

          final : f n ≡ neg_ℤ b *ℤ z P d
          final = rw (built-coef n (omega arith), not-below n)

-- ---- "Linear"
module _ (n : ℕ) (room : n ≤ n_max) (a : ℕ → ℤ) (b : ℤ) where
  pub linear-exact : Exact n (linear_equation n a b) 1 (λ P d. sum_to n (λ j. a j *ℤ P j) +ℤ neg_ℤ b *ℤ units_of d)
  unfolding linear_equation
  linear-exact =
      built n room a b unit_e (λ t P d. P t) (λ P d. units_of d) (omega arith) (λ t l. mono-unit l)
      (mono-one (unit-below (omega arith)))

  pub linear-is : (P : ℕ → ℤ) (d : ℤ) → equation_num n (linear_equation n a b) P d ≡ linear_num n a b P d
  unfolding linear_num
  linear-is P d =
      linear-exact.num P d
      ∙ ring (sum_to n (λ j. a j *ℤ P j) ∷ b ∷ units_of d ∷ power (units_of d) (degree_max - 1) ∷ [])
      (λ s b u w. (s ⊕ neg b ⊗ u) ⊗ w) (λ s b u w. (s ⊖ b ⊗ u) ⊗ w) refl

-- ---- "Eigenpair", with any coordinate p of the vector set to 1
pub coordinate-one : (p : ℕ) (P : ℕ → ℤ) (d : ℤ) → coordinate p P d p ≡ units_of d
unfolding coordinate
coordinate-one p P d = rw (eq-eqb p p refl)

pub coordinate-other : {p j : ℕ} (P : ℕ → ℤ) (d : ℤ) → (j ≡ p → ⊥) → coordinate p P d j ≡ P j
unfolding coordinate
coordinate-other {p} {j} P d h = rw (ne_eqb j p h)

module _ (n p : ℕ) (room : n ≤ n_max) (pin : p < n) (a : ℕ → ℤ) (i : ℕ) (l : i < n) where
  mono-vector : (t : ℕ) → t < n → Monomial n (vector_e p t) 1 (λ P d. coordinate p P d t)
  unfolding vector_e coordinate
  mono-vector t h = by (ℕ_discrete t p)
    where
      by : Dec (t ≡ p) → Monomial n (λ k. cond (eqb t p) 0 (unit_e t k)) 1 (λ P d. cond (eqb t p) (units_of d) (P t))
      by (yes e) = rw (eq-eqb t p e) (mono-one (λ i l. refl))
      by (no e) = rw (ne_eqb t p e) (mono-unit h)

  pub eigen-exact : Exact n (eigen_equation n p a i) 2
      (λ P d. sum_to n (λ j. a j *ℤ (coordinate p P d j *ℤ units_of d)) +ℤ neg_ℤ (pos mark) *ℤ
      (P p *ℤ coordinate p P d i))
  unfolding eigen_equation
  eigen-exact =
      built n room a (pos mark) (eigen_e n p i) (λ t P d. coordinate p P d t *ℤ units_of d)
      (λ P d. P p *ℤ coordinate p P d i) (omega arith) row last
    where
      row : (t : ℕ) → t < n → Monomial n (eigen_e n p i t) 2 (λ P d. coordinate p P d t *ℤ units_of d)
      row t h = mono-cong (λ k _. rw (lt-ltb t n h)) (mono-raise (mono-vector t h))

      last : Monomial n (eigen_e n p i n) 2 (λ P d. P p *ℤ coordinate p P d i)
      last = mono-cong (λ k _. rw (not-below n)) (mono-add (mono-unit pin) (mono-vector i l))

  pub eigen-is : (P : ℕ → ℤ) (d : ℤ) → equation_num n (eigen_equation n p a i) P d ≡ eigen_num n p a i P d
  unfolding eigen_num
  eigen-is P d =
      eigen-exact.num P d
      ∙ ap (λ (s : ℤ). (s +ℤ neg_ℤ (pos mark) *ℤ (P p *ℤ coordinate p P d i)) *ℤ power (units_of d) (degree_max - 2))
      sums
      ∙ ring ((sum_to n (λ j. a j *ℤ coordinate p P d j) *ℤ units_of d) ∷ pos mark ∷ (P p *ℤ coordinate p P d i)
      ∷ power (units_of d) (degree_max - 2) ∷ [])
      (λ s m x w. (s ⊕ neg m ⊗ x) ⊗ w) (λ s m x w. (s ⊖ m ⊗ x) ⊗ w) refl
    where
      sums : sum_to n (λ j. a j *ℤ (coordinate p P d j *ℤ units_of d))
          ≡ sum_to n (λ j. a j *ℤ coordinate p P d j) *ℤ units_of d
      sums =
          sum-cong n (λ j. a j *ℤ (coordinate p P d j *ℤ units_of d)) (λ j. (a j *ℤ coordinate p P d j) *ℤ units_of d)
          (λ j _. sym (*ℤ-assoc (a j) (coordinate p P d j) (units_of d)))
          ∙ sum-mul-r n (units_of d) (λ j. a j *ℤ coordinate p P d j)

-- the formula as document 01 writes it, with the last coordinate set to 1: "the sum of a(i,j) x(j) over j < n, plus
-- a(i,n), minus L x(i)"
pub eigen-last : (m : ℕ) (a : ℕ → ℤ) (i : ℕ) (P : ℕ → ℤ) (d : ℤ)
    → eigen_num (suc m) m a i P d
    ≡ ((sum_to m (λ j. a j *ℤ P j) +ℤ a m *ℤ units_of d) *ℤ units_of d -ℤ pos mark *ℤ (P m *ℤ coordinate m P d i))
    *ℤ power (units_of d) (degree_max - 2)
unfolding eigen_num sum_to
eigen-last m a i P d = rw (sum-cong m (λ j. a j *ℤ coordinate m P d j) (λ j. a j *ℤ P j) early, coordinate-one m P d)
  where
    early : (j : ℕ) → j < m → a j *ℤ coordinate m P d j ≡ a j *ℤ P j
    early j l = let ne : j ≡ m → ⊥ = λ e. omega arith in rw (coordinate-other P d ne)

-- ---- a job
pub pinned-below : (j : Job) → GoodPin Kind.Eigen j.head.n j.head.pin → pinned j < j.head.n
pinned-below j g = omega (arith, g.0, g.1)

module _ (j : Job) (room : j.head.n ≤ n_max) (pin : GoodPin j.head.kind j.head.n j.head.pin) (i : ℕ)
    (l : i < j.head.n) where
  pub equation-is : (P : ℕ → ℤ) (d : ℤ) → equation_num j.head.n (equation_of j i) P d ≡ formula_num j i P d
  unfolding equation_of formula_num
  equation-is P d = by j.head.kind pin
    where
      by : (k : Kind) → GoodPin k j.head.n j.head.pin
          → equation_num j.head.n (equation_by k j i) P d ≡ formula_by k j i P d
      by Kind.Poly g = refl
      by Kind.Linear g = linear-is j.head.n room (row_of j i) (number_at j.system.right i) P d
      by Kind.Eigen g = eigen-is j.head.n (pinned j) room (pinned-below j g) (row_of j i) i l P d

  -- a given polynomial's degrees are its own
  pub equation-degrees : (j.head.kind ≡ Kind.Poly → DegreesIn j.head.n (equation_by Kind.Poly j i))
      → DegreesIn j.head.n (equation_of j i)
  unfolding equation_of
  equation-degrees given = by j.head.kind pin given
    where
      by : (k : Kind) → GoodPin k j.head.n j.head.pin
          → (k ≡ Kind.Poly → DegreesIn j.head.n (equation_by Kind.Poly j i))
          → DegreesIn j.head.n (equation_by k j i)
      by Kind.Poly g h = h refl
      by Kind.Linear g h = record {
        each = λ t u.
            omega (arith, (linear-exact j.head.n room (row_of j i) (number_at j.system.right i)).deg t u);
      }
      by Kind.Eigen g h = record {
        each = λ t u.
            omega (arith, (eigen-exact j.head.n (pinned j) room (pinned-below j g) (row_of j i) i l).deg t u);
      }

pub formula-eigen : (j : Job) → j.head.kind ≡ Kind.Eigen → (i : ℕ) (P : ℕ → ℤ) (d : ℤ)
    → formula_num j i P d ≡ eigen_num j.head.n (pinned j) (row_of j i) i P d
unfolding formula_num
formula-eigen j e i P d = ap (λ (k : Kind). formula_by k j i P d) e
