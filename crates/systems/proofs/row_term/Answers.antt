-- row_term: each branch of the test is one case of the coefficient.
use mathlib.Core.Path.{refl, sym, ◌∙◌}
use borrow.Author.Rules.{rules}
use lib.IntN.{neg_ℤ, +ℤ_idl}
use mir.Facts.{to_z-of_z}
use mir.Syntax.{w64}
use mir.Val.{SFits}
use Rattle.integers.proofs.Machine.{back}
use Rattle.integers.proofs.Ranges.{fits, within-neg}
use Rattle.intervals.specs.Places.{number_at}
use Rattle.systems.proofs.Exponents.{row-entry, row_last, same-term}
use Rattle.systems.proofs.row_term.Goals as goal

pub returns-then-t-n : goal.returns-then-t-n
returns-then-t-n c =
    let f : SFits w64 (number_at c.args.row c.args.t) = search rules in
    same-term (back f ∙ sym (row-entry _ (number_at c.args.row) c.args.b _ c.if-t-n.true)) refl

pub overflow_sub-result : goal.overflow_sub-result
overflow_sub-result c = simp (to_z-of_z, c.ranges.b, +ℤ_idl) (fits (within-neg c.requires.b_in) tt)

pub returns : goal.returns
returns c =
    let f : SFits w64 (neg_ℤ c.args.b) = fits (within-neg c.requires.b_in) tt in
    same-term (simp (to_z-of_z, c.ranges.b, +ℤ_idl, f)
    (sym (row_last _ (number_at c.args.row) c.args.b _ c.if-t-n.false))) refl
