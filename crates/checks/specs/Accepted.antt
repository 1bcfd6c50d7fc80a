-- What an accepted job has, in the words of document 01, "Numbers and sizes". Places past n, and terms past the count,
-- have nothing to meet.
use Rattle.std.specs.Prelude.{◌≡◌, List, ℕ, ◌+◌, ◌<◌, ◌≤◌, get_or, ℤ, pos, ◌≤ℤ◌}
use Rattle.integers.specs.Ranges.{Within}
use Rattle.sizes.specs.Sizes.{n_max, terms_max, steps_max, number_max, end_max, entry_max, degree_max}
use Rattle.jobs.specs.declared.Kind.{Kind}
use Rattle.jobs.specs.declared.Term.{Term}
use Rattle.jobs.specs.declared.Equation.{Equation}
use Rattle.jobs.specs.declared.Job.{Job}
use Rattle.jobs.specs.Places.{exp_of, term_at, row_at, equation_at}
use Rattle.term_checks.specs.Terms.{degree}

-- the first n numbers, each from -most to most
abbrev pub AllWithin : List ℤ → ℕ → ℕ → Type 0
AllWithin xs n most = (i : ℕ) → i < n → Within (get_or xs i (pos 0)) most

-- "strictly falling order of their exponent digits": t stands before u, for they differ first at an unknown where t's
-- digit is higher
pub record Falls (t u : Term) (n : ℕ) : Type 0 where
  pub place : ℕ
  pub live : place < n
  pub same : (k : ℕ) → k < place → exp_of t k ≡ exp_of u k
  pub higher : exp_of u place < exp_of t place

-- "0 to 16 terms, each of total degree 0 to 3, coefficient not zero", in order
pub record GoodEquation (q : Equation) (n : ℕ) : Type 0 where
  pub few : q.count ≤ terms_max
  pub size : (k : ℕ) → k < q.count → Within (term_at q k).coef entry_max
  pub nonzero : (k : ℕ) → k < q.count → (term_at q k).coef ≡ pos 0 → ⊥
  pub deg : (k : ℕ) → k < q.count → degree n (exp_of (term_at q k)) ≤ degree_max
  pub order : (k : ℕ) → k + 1 < q.count → Falls (term_at q k) (term_at q (k + 1)) n

-- equation or row i of the system, with its right side
abbrev pub GoodSystem : Kind → Job → ℕ → Type 0
GoodSystem Kind.Poly j i = GoodEquation (equation_at j.system.eqs i) j.head.n
GoodSystem Kind.Linear j i =
    AllWithin (row_at j.system.rows i) j.head.n entry_max × Within (get_or j.system.right i (pos 0)) entry_max
GoodSystem Kind.Eigen j i = AllWithin (row_at j.system.rows i) j.head.n entry_max

-- the pin: 1 to n in an eigenpair's job, and anything in the others
abbrev pub GoodPin : Kind → ℕ → ℕ → Type 0
GoodPin Kind.Poly n pin = Unit {0}
GoodPin Kind.Linear n pin = Unit {0}
GoodPin Kind.Eigen n pin = (1 ≤ pin) × (pin ≤ n)

pub record Accepted (j : Job) : Type 0 where
  pub number : j.head.number ≤ number_max
  pub some : 1 ≤ j.head.n
  pub few : j.head.n ≤ n_max
  pub pin : GoodPin j.head.kind j.head.n j.head.pin
  pub low : AllWithin j.ends.lo j.head.n end_max
  pub high : AllWithin j.ends.hi j.head.n end_max
  pub ordered : (i : ℕ) → i < j.head.n → get_or j.ends.lo i (pos 0) ≤ℤ get_or j.ends.hi i (pos 0)
  pub inverse : (i : ℕ) → i < j.head.n → AllWithin (row_at j.inv i) j.head.n entry_max
  pub steps : j.steps ≤ steps_max
  pub system : (i : ℕ) → i < j.head.n → GoodSystem j.head.kind j i
