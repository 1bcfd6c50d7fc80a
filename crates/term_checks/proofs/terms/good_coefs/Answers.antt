use Prim.Native.Nat.{◌<◌}
use mathlib.Core.Path.{refl, sym, ◌∙◌}
use native.Mathlib.Omega.{arith}
use lib.ListN.{get_or, take}
use mir.Facts.{to_z-of_z}
use mir.Val.{SFits}
use mir.Syntax.{w64}
use borrow.Author.Rules.{rules}
use Rattle.std.proofs.Common.{length-take}
use Rattle.std.proofs.lemmas.List.{get_or-take}
use Rattle.lists.specs.Loops.{all_b}
use Rattle.lists.proofs.All.{all_more, all-stop, all_done}
use Rattle.jobs.specs.Places.{no_term}
use Rattle.term_checks.specs.Terms.{good_coefs}
use Rattle.term_checks.proofs.terms.good_coefs.Goals as goal

pub loop-t-init : goal.loop-t-init
unfolding all_b
loop-t-init c = refl

pub returns-then-not-within : goal.returns-then-not-within
unfolding good_coefs
returns-then-not-within c =
    let n = c.min.result in
    let i = c.loop-t.t-index in
    let live : i < n = omega (arith, length-take n c.args.q.terms) in
    let e : SFits w64 (get_or (take n c.args.q.terms) i no_term).coef = search rules in
    rw (← c.min.ensures)
    (sym (all-stop _ _ _ live
    (rw (to_z-of_z e, get_or-take n c.args.q.terms i no_term live) at (sym c.within.ensures ∙ c.if-not-within.true))))

pub loop-t-preserved : goal.loop-t-preserved
loop-t-preserved c =
    let n = c.min.result in
    let i = c.loop-t.t-index in
    let live : i < n = omega (arith, length-take n c.args.q.terms) in
    let e : SFits w64 (get_or (take n c.args.q.terms) i no_term).coef = search rules in
    all_more _ i c.loop-t.invariant
    (rw (to_z-of_z e, get_or-take n c.args.q.terms i no_term live) at (sym c.within.ensures ∙ c.if-not-within.false))

pub returns : goal.returns
unfolding good_coefs
returns c =
    let some = length-take c.min.result c.args.q.terms in
    rw (← c.min.ensures)
    (sym (all_done _ {i = c.loop-t.t-index} (omega arith) (omega arith) c.loop-t.invariant))
