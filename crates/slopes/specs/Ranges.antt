-- What the functions over a system ask of it, the sizes of document 01, which the check of a job's values establishes;
-- and how large the results can be: "With these sizes every sum of products below fits a signed 64-bit number."
use Rattle.std.specs.Prelude.{ℕ, ◌≤◌, ◌<◌, ℤ}
use Rattle.sizes.specs.Sizes.{n_max, terms_max, end_max, entry_max, degree_max}
use Rattle.integers.specs.Ranges.{Within}
use Rattle.intervals.specs.Ranges.{InI}
use Rattle.powers.specs.Ranges.{grow}
use Rattle.sizes.specs.Bounds.{term_max}
use Rattle.term_checks.specs.Terms.{degree}
use Rattle.intervals.specs.declared.Interval.{Interval}
use Rattle.jobs.specs.declared.Equation.{Equation}
use Rattle.slopes.specs.Terms.{coef_of, exps_of}

-- a box of n unknowns, its ends within 4.0
pub record BoxIn (n : ℕ) (X : ℕ → Interval) : Type 0 where
  pub places : n ≤ n_max
  pub each : (k : ℕ) → k < n → InI end_max (X k)

-- a term of total degree 0 to 3, its coefficient within 64.0
pub record TermIn (n : ℕ) (c : ℤ) (e : ℕ → ℕ) : Type 0 where
  pub coef : Within c entry_max
  pub deg : degree n e ≤ degree_max

-- 0 to 16 such terms
pub record EquationIn (n : ℕ) (q : Equation) : Type 0 where
  pub count : q.count ≤ terms_max
  pub each : (t : ℕ) → t < q.count → TermIn n (coef_of q t) (exps_of q t)

-- n such equations
pub record SystemIn (n : ℕ) (q : ℕ → Equation) : Type 0 where
  pub each : (i : ℕ) → i < n → EquationIn n (q i)

-- what the multiplication of a by the power e of x asks
pub record FactorIn (e : ℕ) (a x : Interval) : Type 0 where
  pub size : ℕ
  pub start : InI size a
  pub unknown : InI end_max x
  pub room : grow e size ≤ term_max
