-- What can be spelled of an equation.
use Rattle.std.specs.Prelude.{ℕ, ◌<◌, ◌≤◌, ◌^◌, nat_abs}
use Rattle.sizes.specs.Sizes.{terms_max}
use Rattle.digits.specs.Number.{digits_max}
use Rattle.jobs.specs.Places.{exp_of, term_at}
use Rattle.jobs.specs.declared.Term.{Term}
use Rattle.jobs.specs.declared.Equation.{Equation}

-- at most nine digits, and "one digit for each unknown"
pub record SpelledTerm (n : ℕ) (t : Term) : Type 0 where
  pub coef : nat_abs t.coef < 10 ^ digits_max
  pub digits : (k : ℕ) → k < n → exp_of t k < 10

pub record SpelledEquation (n : ℕ) (q : Equation) : Type 0 where
  pub few : q.count ≤ terms_max
  pub terms : (k : ℕ) → k < q.count → SpelledTerm n (term_at q k)
