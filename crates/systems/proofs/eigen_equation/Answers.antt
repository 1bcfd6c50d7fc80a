-- eigen_equation: each term is a row's, with the exponents of one coordinate or of L times one.
use mathlib.Core.Path.{ap}
use Prim.Native.Nat.{◌+◌}
use lib.IntN.{pos}
use borrow.Author.Rules.{rules}
use Rattle.intervals.specs.Interval.{mark}
use Rattle.systems.specs.Kinds.{eigen_equation, row_coef, eigen_e, term_of}
use Rattle.intervals.specs.Places.{number_at}
use Rattle.systems.proofs.eigen_equation.Goals as goal

pub returns : goal.returns
unfolding eigen_equation
returns c =
    let a = c.args in
    ap (λ t. record { count = a.n + 1; terms = t })
    (rw c.zero_term.ensures at
    (c.filled-terms.ensures (λ t. term_of a.n (row_coef a.n (number_at a.row) (pos mark) t) (eigen_e a.n a.p a.i t))
    (λ t r l p. search rules)))
