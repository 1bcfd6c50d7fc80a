-- linear_equation: each term is a row's, with the exponents of one unknown.
use mathlib.Core.Path.{ap}
use Prim.Native.Nat.{◌+◌}
use borrow.Author.Rules.{rules}
use Rattle.systems.specs.Kinds.{linear_equation, row_coef, unit_e, term_of}
use Rattle.intervals.specs.Places.{number_at}
use Rattle.systems.proofs.linear_equation.Goals as goal

pub returns : goal.returns
unfolding linear_equation
returns c =
    let a = c.args in
    ap (λ t. record { count = a.n + 1; terms = t })
    (rw c.zero_term.ensures at
    (c.filled-terms.ensures (λ t. term_of a.n (row_coef a.n (number_at a.row) a.right t) (unit_e t))
    (λ t r l p. search rules)))
