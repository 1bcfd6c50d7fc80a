use native.Mathlib.Omega.{arith}
use mir.Syntax.{w64}
use mir.Val.{SFits}
use mir.Facts.{to_z-of_z}
use borrow.Author.Rules.{rules}
use mathlib.Core.Path.{refl, sym, ap, ◌∙◌}
use lib.ListN.{length, length-set}
use Rattle.scan.proofs.Listing.{begins, none-there, other-mark, again, ends, no-list}
use Rattle.scan.proofs.lines.numbers_at.Goals as goal

pub loop-number-init : goal.loop-number-init
loop-number-init c = let p = c.requires in begins _ _ _ p.0 p.1

pub returns-in_default : goal.returns-in_default
returns-in_default c =
    let l = c.loop-number in
    let bad = c.misspelled.ensures in
    no-list l.vals (none-there l.invariant c.in_default.ensures refl) bad.0 l.invariant.long bad.1

pub returns-then-is_at : goal.returns-then-is_at
returns-then-is_at c =
    let l = c.loop-number in
    let n = c.in-Some.ensures in
    let fits : SFits w64 c.in-Some.number.value = search rules in
    rw (c.put_number.ensures, to_z-of_z fits)
    (ends l.invariant n.1 (λ z. omega (arith, n.0, z)) (sym c.is_at.ensures ∙ c.if-is_at.true))

pub returns-then-not-is_at : goal.returns-then-not-is_at
returns-then-not-is_at c =
    let l = c.loop-number in
    let bad = c.misspelled-then-not-is_at.ensures in
    let w = other-mark l.invariant c.in-Some.ensures.1 (sym c.is_at.ensures ∙ c.if-is_at.false)
    (sym c.is_at-in-loop-number.ensures ∙ c.if-not-is_at.true) in
    no-list c.put_number.new.vals w bad.0
    (ap length c.put_number.ensures ∙ length-set l.vals l.count _ ∙ l.invariant.long) bad.1

pub loop-number-preserved : goal.loop-number-preserved
loop-number-preserved c =
    let l = c.loop-number in
    let n = c.in-Some.ensures in
    let fits : SFits w64 c.in-Some.number.value = search rules in
    rw (c.put_number.ensures, to_z-of_z fits)
    (again l.invariant n.1 (λ z. omega (arith, n.0, z)) (sym c.is_at-in-loop-number.ensures ∙ c.if-not-is_at.false))
