-- `arguments::longs::list_of` meets its contract.
use borrow.Author.Rules.{rules}
use native.Mathlib.Omega.{arith}
use mathlib.Core.Path.{refl, ◌∙◌}
use mir.Syntax.{w64}
use mir.Val.{SFits}
use mir.Facts.{to_z-of_z}
use Rattle.arguments.specs.Lists.{places_of}
use Rattle.arguments.proofs.Fields.{field-bad, field-last, field-more, fields-over}
use Rattle.arguments.proofs.longs.list_of.Goals as goal

pub loop-place-init : goal.loop-place-init
unfolding places_of
loop-place-init c = record { few = omega arith; inside = omega arith; same = refl }

pub returns-in_err-place : goal.returns-in_err-place
returns-in_err-place c =
    c.from_residual.ensures
    ∙ field-bad c.loop-place.invariant c.piece_end-end.ensures c.loop-place-test.true c.in_err-place.ensures

pub returns-then-end-s : goal.returns-then-end-s
returns-then-end-s c =
    let fits : SFits w64 c.in_ok-place.field-0 = search rules in
    rw (to_z-of_z fits)
    (field-last c.loop-place.invariant c.piece_end-end.ensures c.loop-place-test.true c.in_ok-place.ensures
    c.if-end-s.true)

pub loop-place-preserved : goal.loop-place-preserved
loop-place-preserved c =
    let fits : SFits w64 c.in_ok-place.field-0 = search rules in
    rw (to_z-of_z fits)
    (field-more c.loop-place.invariant c.piece_end-end.ensures c.loop-place-test.true c.in_ok-place.ensures
    c.if-end-s.false)

pub returns : goal.returns
returns c = fields-over c.loop-place.invariant c.loop-place-test.false
