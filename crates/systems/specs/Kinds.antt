-- Document 01, "The three kinds": the equations of a job, as terms.
use Rattle.std.specs.Prelude.{cond, List, ℕ, ◌+◌, ◌-◌, eqb, ltb, ℤ, pos, neg_ℤ}
use Rattle.sizes.specs.Sizes.{n_max, terms_max}
use Rattle.lists.specs.Loops.{tab}
use Rattle.intervals.specs.Interval.{mark}
use Rattle.intervals.specs.Places.{number_at}
use Rattle.jobs.specs.Places.{equation_at, row_at}
use Rattle.jobs.specs.Zero.{zero_term, zero_equation}
use Rattle.jobs.specs.declared.Kind.{Kind}
use Rattle.jobs.specs.declared.Term.{Term}
use Rattle.jobs.specs.declared.Equation.{Equation}
use Rattle.jobs.specs.declared.Job.{Job}

-- the exponents of unknown t alone
unfoldable pub unit_e : ℕ → ℕ → ℕ
unit_e t k = cond (eqb k t) 1 0

-- the exponents of coordinate t of an eigenvector whose coordinate p "is set to 1"
unfoldable pub vector_e : ℕ → ℕ → ℕ → ℕ
vector_e p t k = cond (eqb t p) 0 (unit_e t k)

-- a term of coefficient c and exponents e
abbrev pub term_of : ℕ → ℤ → (ℕ → ℕ) → Term
term_of n c e = record { coef = c; exps = tab n_max n 0 e }

-- an equation of n + 1 terms
abbrev pub build : ℕ → (ℕ → ℤ) → (ℕ → ℕ → ℕ) → Equation
build n c e = record { count = n + 1; terms = tab terms_max (n + 1) zero_term (λ t. term_of n (c t) (e t)) }

-- the entries of a row, and minus b after them
abbrev pub row_coef : ℕ → (ℕ → ℤ) → ℤ → ℕ → ℤ
row_coef n a b t = cond (ltb t n) (a t) (neg_ℤ b)

-- "Linear: equation i is the sum of a(i,j) x(j), minus b(i)."
unfoldable pub linear_equation : ℕ → (ℕ → ℤ) → ℤ → Equation
linear_equation n a b = build n (row_coef n a b) unit_e

-- "Equation i is the sum of a(i,j) x(j) over j < n, plus a(i,n), minus L x(i), where x(n) is 1", each its own term.
-- Here coordinate p is 1, and unknown p is L: document 02, P2.
abbrev pub eigen_e : ℕ → ℕ → ℕ → ℕ → ℕ → ℕ
eigen_e n p i t k = cond (ltb t n) (vector_e p t k) (unit_e p k + vector_e p i k)

unfoldable pub eigen_equation : ℕ → ℕ → (ℕ → ℤ) → ℕ → Equation
eigen_equation n p a i = build n (row_coef n a (pos mark)) (eigen_e n p i)

-- document 02, P2: "coordinate pin is 1 and the eigenvalue takes its place as that unknown"; here counted from 0
abbrev pub pinned : Job → ℕ
pinned j = j.head.pin - 1

-- row i of the matrix
abbrev pub row_of : Job → ℕ → ℕ → ℤ
row_of j i = number_at (row_at j.system.rows i)

abbrev pub equation_by : Kind → Job → ℕ → Equation
equation_by Kind.Poly j i = equation_at j.system.eqs i
equation_by Kind.Linear j i = linear_equation j.head.n (row_of j i) (number_at j.system.right i)
equation_by Kind.Eigen j i = eigen_equation j.head.n (pinned j) (row_of j i) i

-- equation i of a job
unfoldable pub equation_of : Job → ℕ → Equation
equation_of j i = equation_by j.head.kind j i

-- all of them; "places past n play no part"
abbrev pub equations_of : Job → List Equation
equations_of j = tab n_max j.head.n zero_equation (equation_of j)
