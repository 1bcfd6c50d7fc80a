-- How an `eq` line is written. Document 01: "`eq` lines of terms `coefficient:exponents`, one digit for each unknown".
use Rattle.std.specs.Prelude.{ℕ, zero, suc, ◌+◌, ◌*◌, ◌≤◌, ◌<◌, List, [], ◌∷◌, ◌++◌}
use Rattle.sizes.specs.Sizes.{n_max, terms_max, entry_max, degree_max}
use Rattle.integers.specs.Ranges.{Within}
use Rattle.lists.specs.Loops.{tab}
use Rattle.digits.specs.Bytes.{comma, digit0}
use Rattle.digits.specs.Number.{digits_max}
use Rattle.digits.specs.Show.{show_number}
use Rattle.text.specs.Lists.{joined}
use Rattle.jobs.specs.Places.{exp_of, term_at}
use Rattle.checks.specs.Accepted.{GoodEquation}
use Rattle.writing.specs.Wrote.{place_max}
use Rattle.text.specs.Words.{eq_key}
use Rattle.term_text.specs.Terms.{colon}
use Rattle.jobs.specs.declared.Term.{Term}
use Rattle.jobs.specs.declared.Equation.{Equation}

-- "one digit for each unknown"
unfoldable pub show_exponents : ℕ → Term → List ℕ
show_exponents n t = tab n n 0 (λ k. digit0 + exp_of t k)

-- "`coefficient:exponents`"
unfoldable pub show_term : ℕ → Term → List ℕ
show_term n t = show_number t.coef ++ (colon ∷ show_exponents n t)

-- the first m terms
unfoldable pub term_texts : ℕ → Equation → ℕ → List (List ℕ)
term_texts n q m = tab m m [] (λ k. show_term n (term_at q k))

-- "Lists are joined by commas"; "`eq=` alone is the zero equation"
unfoldable pub equation_text : ℕ → Equation → List ℕ
equation_text n q = eq_key ++ joined (term_texts n q q.count)

-- what stands before item i of a list
unfoldable pub comma_before : ℕ → List ℕ
comma_before zero = []
comma_before (suc i) = comma ∷ []

-- ---- what the writers rely on

-- a comma, a minus, nine digits, a colon and a digit for each unknown
abbrev pub term_width : ℕ
term_width = digits_max + 3 + n_max

-- the exponents are digits
pub record ExponentsFit (at n : ℕ) (t : Term) : Type 0 where
  pub few : n ≤ n_max
  pub room : at + n_max ≤ place_max
  pub digits : (k : ℕ) → k < n → exp_of t k ≤ degree_max

pub record TermFits (at n : ℕ) (t : Term) : Type 0 where
  pub few : n ≤ n_max
  pub room : at + term_width ≤ place_max
  pub size : Within t.coef entry_max
  pub digits : (k : ℕ) → k < n → exp_of t k ≤ degree_max

pub record EquationFits (at n : ℕ) (q : Equation) : Type 0 where
  pub few : n ≤ n_max
  pub room : at + term_width * terms_max < place_max
  pub good : GoodEquation q n
