-- Terms and equations over a box hold their exact values at every fraction point of the box.
use mathlib.Core.Path.{refl}
use Prim.Native.Nat.{ℕ, zero, suc, ◌-◌, ◌<◌, ◌≤◌}
use native.Mathlib.Omega.{arith}
use lib.IntN.{ℤ, ◌*ℤ◌}
use Rattle.sizes.specs.Sizes.{degree_max}
use Rattle.lists.specs.Loops.{carry}
use Rattle.intervals.specs.Fraction.{In}
use Rattle.intervals.proofs.Hold.{hold-point, hold-raise, hold-sum}
use Rattle.term_checks.specs.Terms.{degree}
use Rattle.intervals.specs.declared.Interval.{Interval}
use Rattle.jobs.specs.declared.Equation.{Equation}
use Rattle.slopes.specs.Terms.{coef_of, exps_of, term_over, equation_over}
use Rattle.slopes.specs.Fractions.{InBox, units_of, power, term_num, DegreesIn, equation_num}
use Rattle.slopes.proofs.Factors.{power_pos, units-pos, power-add, factor-power}
use Rattle.slopes.proofs.Degrees.{exponents-in}

-- a term over a box holds its exact value
pub hold-term : (n : ℕ) (c : ℤ) (e : ℕ → ℕ) {P : ℕ → ℤ} {d : ℤ} {X : ℕ → Interval}
    → ((k : ℕ) → k < n → e k ≤ degree_max) → ((k : ℕ) → k < n → In (P k) d (X k))
    → In (term_num n c e P) (power (units_of d) (degree n e)) (term_over n c e X)
unfolding term_num degree term_over power carry
hold-term zero c e g h = hold-point c
hold-term (suc n) c e {d = d} g h =
    rw (power-add (units_of d) (degree n e) (e n) refl)
    (factor-power (hold-term n c e (λ k l. g k (omega arith)) (λ k l. h k (omega arith))) (h n (omega arith)) (e n)
    (g n (omega arith)))

-- what raises term t of an equation to degree 3
abbrev pub raised : ℕ → Equation → ℤ → ℕ → ℤ
raised n q d t = power (units_of d) (degree_max - degree n (exps_of q t))

module _ {n : ℕ} {P : ℕ → ℤ} {d : ℤ} {X : ℕ → Interval} (h : InBox n P d X) where
  -- the exact value of an equation
  pub hold-equation : (q : Equation)
      → DegreesIn n q → In (equation_num n q P d) (power (units_of d) degree_max) (equation_over n q X)
  unfolding equation_num equation_over
  hold-equation q g =
      hold-sum q.count (λ t. term_num n (coef_of q t) (exps_of q t) P *ℤ raised n q d t)
      (λ t. term_over n (coef_of q t) (exps_of q t) X)
      (power_pos degree_max (units-pos h.den)) one
    where
      one : (t : ℕ) → t < q.count
          → In (term_num n (coef_of q t) (exps_of q t) P *ℤ raised n q d t) (power (units_of d) degree_max)
          (term_over n (coef_of q t) (exps_of q t) X)
      one t l =
          let left = degree_max - degree n (exps_of q t) in
          rw (power-add (units_of d) (degree n (exps_of q t)) left {m = degree_max} (omega (arith, g.each t l)))
          (hold-raise (hold-term n (coef_of q t) (exps_of q t) (exponents-in _ (g.each t l)) h.each)
          (power_pos left (units-pos h.den)))
