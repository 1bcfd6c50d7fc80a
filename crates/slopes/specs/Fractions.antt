-- Fraction points and exact values, with every denominator multiplied out. "A fraction point is a whole number for each
-- unknown over one whole denominator of at least 1, counted in marks": here the numbers P over the denominator d. Its
-- value for unknown k is P k over d 65,536.
use Rattle.std.specs.Prelude.{ℕ, zero, suc, ◌-◌, ◌≤◌, ◌<◌, ℤ, pos, ◌*ℤ◌, ◌<ℤ◌}
use Rattle.sizes.specs.Sizes.{degree_max}
use Rattle.integers.specs.Sums.{sum_to}
unfoldable pub use Rattle.powers.specs.Exact.{power}
use Rattle.intervals.specs.Interval.{mark}
use Rattle.intervals.specs.Fraction.{In}
use Rattle.term_checks.specs.Terms.{degree}
use Rattle.intervals.specs.declared.Interval.{Interval}
use Rattle.jobs.specs.declared.Equation.{Equation}
use Rattle.slopes.specs.Terms.{coef_of, exps_of}

-- the point P over d lies in the box X
pub record InBox (n : ℕ) (P : ℕ → ℤ) (d : ℤ) (X : ℕ → Interval) : Type 0 where
  pub den : pos 0 <ℤ d
  pub each : (k : ℕ) → k < n → In (P k) d (X k)

-- what a unit is in the point's parts: 65,536 d
abbrev pub units_of : ℤ → ℤ
units_of d = d *ℤ pos mark

-- c times P 0 as often as its exponent says, then P 1 and so on
unfoldable pub term_num : ℕ → ℤ → (ℕ → ℕ) → (ℕ → ℤ) → ℤ
term_num zero c e P = c
term_num (suc n) c e P = term_num n c e P *ℤ power (P n) (e n)

-- "each of total degree 0 to 3"
pub record DegreesIn (n : ℕ) (q : Equation) : Type 0 where
  pub each : (t : ℕ) → t < q.count → degree n (exps_of q t) ≤ degree_max

-- the exact value of an equation at the point, in marks, times (65,536 d) to the power of 3: each term is raised to
-- degree 3
unfoldable pub equation_num : ℕ → Equation → (ℕ → ℤ) → ℤ → ℤ
equation_num n q P d = sum_to q.count
    (λ t. term_num n (coef_of q t) (exps_of q t) P *ℤ power (units_of d) (degree_max - degree n (exps_of q t)))
