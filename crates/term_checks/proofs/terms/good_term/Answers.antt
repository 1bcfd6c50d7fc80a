-- `terms::good_term` meets its contract.
use mathlib.Core.Path.{ap}
use lib.IntN.{pos, nat_abs}
use mir.Val.{of_z, SFits}
use mir.Syntax.{w64}
use borrow.Author.Tests.{eq-eqb, ne_eqb}
use borrow.Author.Rules.{rules}
use Rattle.integers.proofs.Machine.{eq-bits}
use Rattle.term_checks.specs.Terms.{good_term}
use Rattle.term_checks.proofs.TermLaws.{abs-zero}
use Rattle.term_checks.proofs.terms.good_term.Goals as goal

pub returns-then-t-ne0 : goal.returns-then-t-ne0
unfolding good_term
returns-then-t-ne0 c =
    let z = c.args.t.coef in
    rw (ne_eqb (nat_abs z) 0 (λ e. c.if-t-ne0.true (ap (of_z w64) (abs-zero z e))), c.degree_of.ensures)

pub returns-else-t-ne0 : goal.returns-else-t-ne0
unfolding good_term
returns-else-t-ne0 c =
    let z = c.args.t.coef in
    let h : SFits w64 z = search rules in
    let o : SFits w64 (pos 0) = search rules in
    rw (eq-eqb (nat_abs z) 0 (ap nat_abs (eq-bits h o c.if-t-ne0.false)), eq-eqb (of_z w64 z) 0 c.if-t-ne0.false)
