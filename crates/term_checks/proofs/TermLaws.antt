-- The order of two terms, and what the tests of an equation's terms say of each term.
use mathlib.Core.Path.{◌≡◌, refl, sym, ap}
use mathlib.Core.Bool.{Bool, true, false, ◌&&◌, ◌||◌}
use mathlib.Core.Logic.{⊎_elim}
use Prim.Native.Nat.{ℕ, zero, suc, ◌-◌, ◌<◌, ◌≤◌}
use native.Mathlib.Nat.{not-suc-le-zero, le_of_suc-le-suc, eq-or-lt_of_le}
use native.Mathlib.Numerals.{unary_clauses}
use native.Mathlib.Omega.{arith}
use lib.IntN.{ℤ, pos, negsuc, nat_abs}
use lib.Dec.{ltb}
use borrow.Author.Tests.{lt-ltb, le-ltb, ltb-true, ltb-false, eqb-true, ne_eqb}
use Rattle.lists.proofs.All.{all-each, all-stop}
use Rattle.term_checks.proofs.RangeLaws.{each_all}
use Rattle.jobs.specs.declared.Term.{Term}
use Rattle.jobs.specs.declared.Equation.{Equation}
use Rattle.jobs.specs.Places.{exp_of, term_at}
use Rattle.term_checks.specs.Terms.{alike, falls, in_order}

or_right : (a : Bool) → a || true ≡ true
or_right true = refl
or_right false = refl

module _ (t u : Term) where
  alike-fewer : {m n : ℕ} → m ≤ n → alike t u n ≡ true → alike t u m ≡ true
  unfolding alike
  alike-fewer {m} {n} h e = each_all _ m (λ i l. all-each _ n i (omega arith) e)

  -- two terms with the same exponents do not stand in strictly falling order
  pub falls-same : (n : ℕ) → alike t u n ≡ true → falls t u n ≡ false
  unfolding falls alike
  falls-same zero e = refl
  falls-same (suc n) e =
      rw (falls-same n (alike-fewer (omega arith) e), alike-fewer {m = n} (omega arith) e)
      (le-ltb (exp_of u n) (exp_of t n)
      (omega (arith, eqb-true (exp_of t n) (exp_of u n) (all-each _ (suc n) n (omega arith) e))))

  -- the first place where they differ decides
  pub falls-lower : (n k : ℕ) → k < n → alike t u k ≡ true → exp_of u k < exp_of t k → falls t u n ≡ true
  unfolding falls
  falls-lower zero k l e h = absurd (not-suc-le-zero l)
  falls-lower (suc n) k l e h = ⊎_elim here (λ lt. rw (falls-lower n k lt e h)) (eq-or-lt_of_le (le_of_suc-le-suc l))
    where
      here : k ≡ n → falls t u n || (alike t u n && ltb (exp_of u n) (exp_of t n)) ≡ true
      here q = rw (← q, e, lt-ltb (exp_of u k) (exp_of t k) h) (or_right (falls t u k))

  pub falls-higher : (n k : ℕ) → k < n → alike t u k ≡ true → exp_of t k < exp_of u k → falls t u n ≡ false
  unfolding falls alike
  falls-higher zero k l e h = absurd (not-suc-le-zero l)
  falls-higher (suc n) k l e h =
      ⊎_elim here (λ lt. later lt (falls-higher n k lt e h)) (eq-or-lt_of_le (le_of_suc-le-suc l))
    where
      here : k ≡ n → falls t u n || (alike t u n && ltb (exp_of u n) (exp_of t n)) ≡ false
      here q = rw (← q, falls-same k e, e) (le-ltb (exp_of u k) (exp_of t k) (omega arith))

      later : k < n → falls t u n ≡ false → falls t u n || (alike t u n && ltb (exp_of u n) (exp_of t n)) ≡ false
      later lt f = rw (f, all-stop _ n k lt (ne_eqb (exp_of t k) (exp_of u k) (λ q. omega arith)))

  -- by the exponents that stand there
  pub falls-differ : (n k : ℕ) → k < n → alike t u k ≡ true → (exp_of u k ≡ exp_of t k → ⊥)
      → falls t u n ≡ ltb (exp_of u k) (exp_of t k)
  falls-differ n k l e d = go (ltb (exp_of u k) (exp_of t k)) refl
    where
      go : (b : Bool) → ltb (exp_of u k) (exp_of t k) ≡ b → falls t u n ≡ b
      go true z = falls-lower n k l e (ltb-true (exp_of u k) (exp_of t k) z)
      go false z =
          let h = ltb-false (exp_of u k) (exp_of t k) z in
          falls-higher n k l e (⊎_elim (λ same. absurd (d (sym same))) (λ lt. lt) (eq-or-lt_of_le h))

pub order-first : (q : Equation) (n k : ℕ) → k ≤ 0 → in_order q n k ≡ true
unfolding in_order
order-first q n zero l = refl
order-first q n (suc k) l = absurd (not-suc-le-zero l)

pub order-at : (q : Equation) (n k : ℕ) → 0 < k → in_order q n k ≡ falls (term_at q (k - 1)) (term_at q k) n
unfolding in_order
order-at q n zero l = absurd (not-suc-le-zero l)
order-at q n (suc k) l = simp unary_clauses refl

pub abs-zero : (z : ℤ) → nat_abs z ≡ 0 → z ≡ pos 0
abs-zero (pos n) e = ap pos e
abs-zero (negsuc n) e = absurd (no n e)
  where
    no : (n : ℕ) → suc n ≡ 0 → ⊥
    no n e = omega arith
