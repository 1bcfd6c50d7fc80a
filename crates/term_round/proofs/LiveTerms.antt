-- An accepted equation stays so with zeros in its dead places.
use Prim.Native.Nat.{ℕ, zero, suc, ◌+◌, ◌≤◌, ◌<◌, min}
use native.Mathlib.Omega.{arith}
use mathlib.Core.Path.{◌≡◌, refl, ap, ap₂, ◌∙◌}
use mathlib.Core.Bool.{Bool, ◌&&◌, ◌||◌}
use lib.Dec.{eqb, leb, ltb}
use lib.IntN.{ℤ, pos}
use Rattle.sizes.specs.Sizes.{n_max, terms_max, entry_max}
use Rattle.lists.proofs.Tab.{get_or-tab}
use Rattle.lists.proofs.Carry.{carry-cong}
use Rattle.lists.proofs.All.{all-cong}
use Rattle.jobs.specs.Places.{no_term, exp_of, term_at}
use Rattle.jobs.specs.Zero.{zero_term}
use Rattle.term_checks.specs.Ranges.{is_within}
use Rattle.term_checks.specs.Terms.{degree, alike, falls, in_order, good_term, good_place, good_terms, good_coefs}
use Rattle.jobs.specs.declared.Term.{Term}
use Rattle.jobs.specs.declared.Equation.{Equation}
use Rattle.term_round.specs.Live.{live_term, live_equation}

module _ (n : ℕ) (few : n ≤ n_max) where
  exp-live : (t : Term) (k : ℕ) → k < n → exp_of (live_term n t) k ≡ exp_of t k
  unfolding live_term
  exp-live t k l = get_or-tab 0 n_max n (exp_of t) 0 k l few

  degree-live : (t : Term) → degree n (exp_of (live_term n t)) ≡ degree n (exp_of t)
  unfolding degree
  degree-live t = carry-cong n 0 _ _ (λ k d l. ap (λ (e : ℕ). d + e) (exp-live t k l))

  coef-live : (t : Term) → (live_term n t).coef ≡ t.coef
  unfolding live_term
  coef-live t = refl

  -- ---- the tests look at live places alone

  alike-live : (t u : Term) (m : ℕ) → m ≤ n → alike (live_term n t) (live_term n u) m ≡ alike t u m
  unfolding alike
  alike-live t u m h =
      all-cong m _ _ (λ k l. ap₂ eqb (exp-live t k (omega arith)) (exp-live u k (omega arith)))

  falls-test : (t u : Term) (m : ℕ) → m ≤ n → falls (live_term n t) (live_term n u) m ≡ falls t u m
  unfolding falls
  falls-test t u zero h = refl
  falls-test t u (suc m) h =
      ap₂ (λ (a b : Bool). a || b) (falls-test t u m (omega arith))
      (ap₂ (λ (a b : Bool). a && b) (alike-live t u m (omega arith))
      (ap₂ ltb (exp-live u m (omega arith)) (exp-live t m (omega arith))))

  term-test : (t : Term) → good_term (live_term n t) n ≡ good_term t n
  unfolding good_term
  term-test t = rw (coef-live t, degree-live t)

  module _ (q : Equation) (short : q.count ≤ terms_max) where
    term-live : (k : ℕ) → k < q.count → term_at (live_equation n q) k ≡ live_term n (term_at q k)
    unfolding live_equation
    term-live k l = get_or-tab zero_term terms_max q.count _ no_term k l short

    order-test : (k : ℕ) → k < q.count → in_order (live_equation n q) n k ≡ in_order q n k
    unfolding in_order
    order-test zero l = refl
    order-test (suc k) l =
        rw (term-live k (omega arith), term-live (suc k) l) (falls-test (term_at q k) (term_at q (suc k)) n
        (omega arith))

    place-test : (k : ℕ) → k < q.count → good_place (live_equation n q) n k ≡ good_place q n k
    unfolding good_place
    place-test k l =
        ap₂ (λ (a b : Bool). a && b) (ap (λ (t : Term). good_term t n) (term-live k l) ∙ term-test (term_at q k))
        (order-test k l)

    pub terms-live : good_terms (live_equation n q) n ≡ good_terms q n
    unfolding good_terms good_place live_equation
    terms-live = ap (λ (b : Bool). leb q.count terms_max && b) (all-cong q.count _ _ place-test)

    pub coefs-live : good_coefs (live_equation n q) ≡ good_coefs q
    unfolding good_coefs live_equation
    coefs-live =
        all-cong (min q.count terms_max) _ _ (λ k l.
        ap (λ (t : Term). is_within t.coef (pos entry_max)) (term-live k (omega arith))
        ∙ ap (λ (z : ℤ). is_within z (pos entry_max)) (coef-live (term_at q k)))
