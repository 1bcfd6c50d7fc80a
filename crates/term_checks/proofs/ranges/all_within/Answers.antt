use Prim.Native.Nat.{◌<◌}
use mathlib.Core.Path.{refl, sym, ◌∙◌}
use native.Mathlib.Omega.{arith}
use lib.IntN.{pos}
use lib.ListN.{get_or, take}
use mir.Syntax.{w64}
use mir.Val.{SFits, to_z, of_z}
use mir.Facts.{to_z-of_z}
use borrow.Author.Rules.{rules}
use Rattle.std.proofs.Common.{length-take}
use Rattle.std.proofs.lemmas.List.{get_or-take}
use Rattle.lists.specs.Loops.{all_b}
use Rattle.lists.proofs.All.{all_more, all-stop, all_done}
use Rattle.term_checks.specs.Ranges.{is_within, all_within}
use Rattle.term_checks.proofs.ranges.all_within.Goals as goal

pub loop-x-init : goal.loop-x-init
unfolding all_b
loop-x-init c = refl

pub returns-then-not-within : goal.returns-then-not-within
unfolding all_within
returns-then-not-within c =
    let i = c.loop-x.x-index in
    let live : i < c.args.n = omega (arith, length-take c.args.n c.args.xs) in
    let e : SFits w64 (get_or (take c.args.n c.args.xs) i (pos 0)) = search rules in
    sym (all-stop _ _ _ live
    (rw (to_z-of_z e, to_z-of_z c.ranges.most, get_or-take c.args.n c.args.xs i (pos 0) live)
    at (sym c.within.ensures ∙ c.if-not-within.true)))

pub loop-x-preserved : goal.loop-x-preserved
loop-x-preserved c =
    let i = c.loop-x.x-index in
    let live : i < c.args.n = omega (arith, length-take c.args.n c.args.xs) in
    let e : SFits w64 (get_or (take c.args.n c.args.xs) i (pos 0)) = search rules in
    all_more (λ k. is_within (get_or c.args.xs k (pos 0)) (to_z w64 (of_z w64 c.args.most))) i c.loop-x.invariant
    (rw (to_z-of_z e, get_or-take c.args.n c.args.xs i (pos 0) live)
    at (sym c.within.ensures ∙ c.if-not-within.false))

pub returns : goal.returns
unfolding all_within
returns c =
    let some = length-take c.args.n c.args.xs in
    rw (← to_z-of_z c.ranges.most)
    (sym (all_done (λ k. is_within (get_or c.args.xs k (pos 0)) (to_z w64 (of_z w64 c.args.most)))
    {i = c.loop-x.x-index} (omega arith) (omega arith) c.loop-x.invariant))
