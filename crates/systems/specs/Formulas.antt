-- Document 01, "The three kinds": the formulas that the built equations must equal, at the fraction point P over d.
-- Unknown j is P j over 65,536 d, and matrix entries, right sides and values are in marks. As in `equation_num`, each
-- value is multiplied by (65,536 d) to the power of 3.
use Rattle.std.specs.Prelude.{cond, ℕ, ◌-◌, eqb, ℤ, pos, ◌-ℤ◌, ◌*ℤ◌}
use Rattle.intervals.specs.Places.{number_at}
use Rattle.sizes.specs.Sizes.{degree_max}
use Rattle.integers.specs.Sums.{sum_to}
use Rattle.intervals.specs.Interval.{mark}
use Rattle.jobs.specs.declared.Kind.{Kind}
use Rattle.jobs.specs.declared.Job.{Job}
use Rattle.slopes.specs.Fractions.{units_of, power, equation_num}
use Rattle.systems.specs.Kinds.{pinned, row_of, equation_by}

-- "the sum of a(i,j) x(j), minus b(i)": over 65,536 d, then raised
unfoldable pub linear_num : ℕ → (ℕ → ℤ) → ℤ → (ℕ → ℤ) → ℤ → ℤ
linear_num n a b P d = (sum_to n (λ j. a j *ℤ P j) -ℤ b *ℤ units_of d) *ℤ power (units_of d) (degree_max - 1)

-- coordinate j of the eigenvector, over 65,536 d: coordinate p "is 1", the others are unknowns
unfoldable pub coordinate : ℕ → (ℕ → ℤ) → ℤ → ℕ → ℤ
coordinate p P d j = cond (eqb j p) (units_of d) (P j)

-- "the sum of a(i,j) x(j) over j < n, plus a(i,n), minus L x(i), where x(n) is 1": over 65,536 d twice, then raised. L
-- is unknown p, and L x(i) in marks is 65,536 times what it is in units.
unfoldable pub eigen_num : ℕ → ℕ → (ℕ → ℤ) → ℕ → (ℕ → ℤ) → ℤ → ℤ
eigen_num n p a i P d =
    (sum_to n (λ j. a j *ℤ coordinate p P d j) *ℤ units_of d -ℤ pos mark *ℤ (P p *ℤ coordinate p P d i))
    *ℤ power (units_of d) (degree_max - 2)

-- "Polynomial: as given."
abbrev pub formula_by : Kind → Job → ℕ → (ℕ → ℤ) → ℤ → ℤ
formula_by Kind.Poly j i P d = equation_num j.head.n (equation_by Kind.Poly j i) P d
formula_by Kind.Linear j i P d = linear_num j.head.n (row_of j i) (number_at j.system.right i) P d
formula_by Kind.Eigen j i P d = eigen_num j.head.n (pinned j) (row_of j i) i P d

-- the formula of equation i of a job
unfoldable pub formula_num : Job → ℕ → (ℕ → ℤ) → ℤ → ℤ
formula_num j i P d = formula_by j.head.kind j i P d
