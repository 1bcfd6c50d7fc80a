-- Document 01, "The arithmetic", with document 02's powers: terms, equations and slopes over a box of n unknowns. A box
-- is read by its places: X k is the interval of unknown k. So are a term's exponents: e k is the exponent of unknown k.
-- Unknown 1 of document 01 stands at place 0.
use Rattle.std.specs.Prelude.{cond, List, ℕ, ◌-◌, eqb, ℤ, replicate}
use Rattle.sizes.specs.Sizes.{n_max}
use Rattle.lists.specs.Loops.{tab, carry}
use Rattle.intervals.specs.Interval.{zero_i, point_i, scale_i, mul_i, sum_i}
use Rattle.powers.specs.Powers.{power_i}
use Rattle.intervals.specs.Places.{vector_of}
use Rattle.jobs.specs.Places.{exp_of, term_at}
use Rattle.intervals.specs.declared.Interval.{Interval}
use Rattle.jobs.specs.declared.Equation.{Equation}

-- the coefficient and the exponents of term t of an equation
abbrev pub coef_of : Equation → ℕ → ℤ
coef_of q t = (term_at q t).coef

abbrev pub exps_of : Equation → ℕ → ℕ → ℕ
exps_of q t = exp_of (term_at q t)

-- document 02, P5: "Form a power first .. then multiply the coefficient by the powers in unknown order", "rounding
-- after each product"; an unknown that does not stand in the term makes no product
unfoldable pub factor_i : ℕ → Interval → Interval → Interval
factor_i e a x = cond (eqb e 0) a (mul_i a (power_i e x))

-- "Term over a box: begin with [c, c], multiply by" the power of "unknown 1 .., then unknown 2 and so on"
unfoldable pub term_over : ℕ → ℤ → (ℕ → ℕ) → (ℕ → Interval) → Interval
term_over n c e X = carry n (point_i c) (λ k a. factor_i (e k) a (X k))

-- "Equation over a box: the sum of its terms."
unfoldable pub equation_over : ℕ → Equation → (ℕ → Interval) → Interval
equation_over n q X = sum_i q.count (λ t. term_over n (coef_of q t) (exps_of q t) X)

-- "with that exponent lowered by one"
unfoldable pub lowered : ℕ → (ℕ → ℕ) → ℕ → ℕ
lowered j e k = cond (eqb k j) (e k - 1) (e k)

-- "over the terms with exponent e of at least 1, the term with that exponent lowered by one, its ends multiplied by e"
unfoldable pub term_slope : ℕ → ℤ → (ℕ → ℕ) → ℕ → (ℕ → Interval) → Interval
term_slope n c e j X = cond (eqb (e j) 0) zero_i (scale_i (e j) (term_over n c (lowered j e) X))

-- "Slope of an equation in unknown j: .. all summed"
unfoldable pub slope_over : ℕ → Equation → ℕ → (ℕ → Interval) → Interval
slope_over n q j X = sum_i q.count (λ t. term_slope n (coef_of q t) (exps_of q t) j X)

-- "F: the equations over the box"; "places past n play no part"
unfoldable pub values_over : ℕ → (ℕ → Equation) → (ℕ → Interval) → List Interval
values_over n q X = vector_of n (λ i. equation_over n (q i) X)

-- "S: the matrix of slopes", an array of rows, one row for each equation
unfoldable pub slope_row : ℕ → Equation → (ℕ → Interval) → List Interval
slope_row n q X = vector_of n (λ j. slope_over n q j X)

unfoldable pub slopes_over : ℕ → (ℕ → Equation) → (ℕ → Interval) → List (List Interval)
slopes_over n q X = tab n_max n (replicate n_max zero_i) (λ i. slope_row n (q i) X)
