-- What an equation's terms must be: document 01, "Numbers and sizes" and fault 6. Each test is over values and serves a
-- text's reader too.
use Rattle.std.specs.Prelude.{ℕ, zero, suc, ◌+◌, min, Bool, true, false, not, ◌&&◌, ◌||◌, eqb, leb, ltb, pos, nat_abs}
use Rattle.sizes.specs.Sizes.{terms_max, entry_max, degree_max}
use Rattle.lists.specs.Loops.{all_b, carry}
use Rattle.jobs.specs.declared.Term.{Term}
use Rattle.jobs.specs.declared.Equation.{Equation}
use Rattle.jobs.specs.Places.{exp_of, term_at}
use Rattle.term_checks.specs.Ranges.{is_within}

-- "total degree"; an exponent over 9, which no digit spells, makes it too high
unfoldable pub degree : ℕ → (ℕ → ℕ) → ℕ
degree n e = carry n 0 (λ k d. d + e k)

-- the same exponents of the first n unknowns
unfoldable pub alike : Term → Term → ℕ → Bool
alike t u n = all_b n (λ k. eqb (exp_of t k) (exp_of u k))

-- "terms stand in strictly falling order of their exponent digits", t before u: at the first unknown where they differ,
-- t's digit is higher
unfoldable pub falls : Term → Term → ℕ → Bool
falls t u zero = false
falls t u (suc n) = falls t u n || (alike t u n && ltb (exp_of u n) (exp_of t n))

-- a term that is not the first stands below the one before it
unfoldable pub in_order : Equation → ℕ → ℕ → Bool
in_order q n zero = true
in_order q n (suc k) = falls (term_at q k) (term_at q (suc k)) n

-- "each of total degree 0 to 3, coefficient not zero"
unfoldable pub good_term : Term → ℕ → Bool
good_term t n = not (eqb (nat_abs t.coef) 0) && leb (degree n (exp_of t)) degree_max

-- term k of an equation
unfoldable pub good_place : Equation → ℕ → ℕ → Bool
good_place q n k = good_term (term_at q k) n && in_order q n k

-- fault 6: "over 16 terms, a zero coefficient, degree over 3, or wrong order"
unfoldable pub good_terms : Equation → ℕ → Bool
good_terms q n = leb q.count terms_max && all_b q.count (good_place q n)

-- the size of each coefficient; where the count is over its limit, of those that have a place
unfoldable pub good_coefs : Equation → Bool
good_coefs q = all_b (min q.count terms_max) (λ k. is_within (term_at q k).coef (pos entry_max))
