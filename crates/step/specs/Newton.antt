-- Document 01: "The exact Newton image of a fraction point p is p - C f(p), all in fractions, with f(p) the equations
-- at p and no rounding."
-- Here p is P over d, counted in marks. The entries of C and the values f(p) are counted in marks too, and f(p) is
-- `equation_num` over (65,536 d) to the power of 3: so C f(p) is a sum of products over 65,536 times that, which is d
-- times `newton_scale d`.
use Rattle.std.specs.Prelude.{ℕ, ◌*◌, ◌-◌, ℤ, pos, ◌-ℤ◌, ◌*ℤ◌}
use Rattle.sizes.specs.Sizes.{degree_max}
use Rattle.integers.specs.Sums.{sum_to}
use Rattle.intervals.specs.Interval.{mark}
use Rattle.slopes.specs.Fractions.{units_of, power, equation_num}
use Rattle.jobs.specs.declared.Equation.{Equation}

-- what numerators and denominator of p are multiplied by
unfoldable pub newton_scale : ℤ → ℤ
newton_scale d = pos (mark * mark) *ℤ power (units_of d) (degree_max - 1)

-- the denominator of the image
abbrev pub newton_den : ℤ → ℤ
newton_den d = d *ℤ newton_scale d

-- its numerators: p - C f(p) over that denominator
unfoldable pub newton_num : ℕ → (ℕ → Equation) → (ℕ → ℕ → ℤ) → (ℕ → ℤ) → ℤ → ℕ → ℤ
newton_num n q C P d i = P i *ℤ newton_scale d -ℤ sum_to n (λ k. C i k *ℤ equation_num n (q k) P d)
