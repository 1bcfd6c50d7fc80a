-- equations: one case for each kind.
use mathlib.Core.Path.{◌∙◌}
use borrow.Author.Rules.{rules}
use Rattle.systems.proofs.Systems.{equations-by}
use Rattle.systems.specs.Kinds.{equation_by}
use Rattle.jobs.specs.declared.Kind.{Kind}
use Rattle.systems.proofs.equations.Goals as goal

pub returns-in-Poly : goal.returns-in-Poly
returns-in-Poly c = c.poly_equations.ensures ∙ equations-by _ c.in-Poly.is

pub returns-in-Linear : goal.returns-in-Linear
returns-in-Linear c =
    rw c.zero_equation.ensures at
    (c.filled.ensures (equation_by Kind.Linear c.args.j) (λ i r l p. search rules))
    ∙ equations-by _ c.in-Linear.is

pub returns-in-Eigen : goal.returns-in-Eigen
returns-in-Eigen c =
    rw c.zero_equation-in-Eigen.ensures at
    (c.filled-in-Eigen.ensures (equation_by Kind.Eigen c.args.j) (λ i r l p. search rules))
    ∙ equations-by _ c.in-Eigen.is
