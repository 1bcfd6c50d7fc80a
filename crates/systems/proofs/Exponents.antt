-- The exponents and coefficients of a row's equation, case by case.
use mathlib.Core.Path.{◌≡◌, ap₂}
use mathlib.Core.List.{List}
use mathlib.Core.Bool.{Bool, true, false, cond}
use Prim.Native.Nat.{ℕ, ◌+◌, ◌<◌, ◌≤◌}
use native.Mathlib.Omega.{arith}
use lib.Dec.{eqb}
use lib.IntN.{ℤ, neg_ℤ}
use borrow.Author.Tests.{lt-ltb, le-ltb, eq-eqb, ne_eqb}
use Rattle.jobs.specs.declared.Term.{Term}
use Rattle.systems.specs.Kinds.{unit_e, vector_e, eigen_e, row_coef}

pub unit-here : (t k : ℕ) → k ≡ t → unit_e t k ≡ 1
unfolding unit_e
unit-here t k e = rw (eq-eqb k t e)

pub unit-other : (t k : ℕ) → (k ≡ t → ⊥) → unit_e t k ≡ 0
unfolding unit_e
unit-other t k e = rw (ne_eqb k t e)

pub vector-one : (p t k : ℕ) → t ≡ p → vector_e p t k ≡ 0
unfolding vector_e
vector-one p t k e = rw (eq-eqb t p e)

pub vector-other : (p t k : ℕ) → (t ≡ p → ⊥) → vector_e p t k ≡ unit_e t k
unfolding vector_e
vector-other p t k e = rw (ne_eqb t p e)

pub eigen-row : (n p i t k : ℕ) → t < n → eigen_e n p i t k ≡ vector_e p t k
eigen-row n p i t k l = rw (lt-ltb t n l)

pub eigen-last : (n p i t k : ℕ) → n ≤ t → eigen_e n p i t k ≡ unit_e p k + vector_e p i k
eigen-last n p i t k l = rw (le-ltb t n l)

module _ (n : ℕ) (a : ℕ → ℤ) (b : ℤ) (t : ℕ) where
  pub row-entry : t < n → row_coef n a b t ≡ a t
  row-entry l = rw (lt-ltb t n l)

  pub row_last : n ≤ t → row_coef n a b t ≡ neg_ℤ b
  row_last l = rw (le-ltb t n l)

pub same-term : {c d : ℤ} {e f : List ℕ}
    → c ≡ d → e ≡ f → ◌≡◌ {A = Term} (record { coef = c; exps = e }) (record { coef = d; exps = f })
same-term p q = ap₂ (λ (c : ℤ) (e : List ℕ). record { coef = c; exps = e }) p q

pub unit-small : (t k : ℕ) → unit_e t k ≤ 1
unfolding unit_e
unit-small t k = by (eqb k t)
  where
    by : (b : Bool) → cond b 1 0 ≤ 1
    by true = omega arith
    by false = omega arith

pub vector-small : (p t k : ℕ) → vector_e p t k ≤ 1
unfolding vector_e
vector-small p t k = by (eqb t p)
  where
    by : (b : Bool) → cond b 0 (unit_e t k) ≤ 1
    by true = omega arith
    by false = unit-small t k
