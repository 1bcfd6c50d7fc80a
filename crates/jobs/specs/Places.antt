-- How the values are read by their places. What stands past an array's end is never live.
use Rattle.std.specs.Prelude.{List, [], ℕ, ℤ, pos, get_or}
use Rattle.jobs.specs.declared.Term.{Term}
use Rattle.jobs.specs.declared.Equation.{Equation}
use Rattle.jobs.specs.declared.Row.{Row}

-- the exponent of unknown k
abbrev pub exp_of : Term → ℕ → ℕ
exp_of t k = get_or t.exps k 0

-- the term at place k of an equation
abbrev pub no_term : Term
no_term = record { coef = pos 0; exps = [] }

abbrev pub term_at : Equation → ℕ → Term
term_at q k = get_or q.terms k no_term

-- equation i
abbrev pub no_equation : Equation
no_equation = record { count = 0; terms = [] }

abbrev pub equation_at : List Equation → ℕ → Equation
equation_at eqs i = get_or eqs i no_equation

-- row i of a matrix
abbrev pub row_at : List Row → ℕ → List ℤ
row_at rows i = (get_or rows i (record { at = [] })).at
