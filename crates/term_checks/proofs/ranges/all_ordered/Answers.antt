use Prim.Native.Nat.{◌<◌}
use mathlib.Core.Path.{refl, sym, ◌∙◌}
use native.Mathlib.Omega.{arith}
use borrow.Author.Rules.{rules}
use lib.IntN.{pos}
use lib.ListN.{get_or, length, take}
use lib.Signed.{le_z}
use mir.Syntax.{w64}
use mir.Val.{SFits}
use mir.Facts.{to_z-of_z}
use Rattle.std.proofs.Common.{length-take, length-append}
use Rattle.std.proofs.lemmas.List.{get_or-take}
use Rattle.std.proofs.lemmas.Slice.Zip.{zip_turn, zip_end}
use Rattle.integers.proofs.Order.{lt_z-true, lt_z-false, le-le_z, lt-le_z}
use Rattle.lists.specs.Loops.{all_b}
use Rattle.lists.proofs.All.{all_more, all-stop, all_done}
use Rattle.term_checks.specs.Ranges.{all_ordered}
use Rattle.term_checks.proofs.ranges.all_ordered.Goals as goal

pub loop-l-init : goal.loop-l-init
unfolding all_b
loop-l-init c = refl

pub returns-then-h-l : goal.returns-then-h-l
unfolding all_ordered
returns-then-h-l c =
    let n = c.args.n in
    let i = length c.loop-l.yielded in
    let turn = zip_turn (take n c.args.lo) (take n c.args.hi) c.loop-l.yielded c.into_iter-l-iterator.result
    c.loop-l.l-iterator c.next.new.self c.next.result (search rules) (search rules) c.loop-l.yielded_by
    _ c.in-Some.is c.next.ensures.steps in
    let live : i < n = omega (arith, turn.0, length-take n c.args.lo) in
    let low = turn.2 (pos 0) ∙ get_or-take n c.args.lo i (pos 0) live in
    let high = turn.3 (pos 0) ∙ get_or-take n c.args.hi i (pos 0) live in
    let l : SFits w64 c.in-Some.l.now = search rules in
    let h : SFits w64 c.in-Some.h.now = search rules in
    sym (all-stop _ _ i live (rw (← low, ← high) (lt-le_z c.in-Some.l.now c.in-Some.h.now (lt_z-true _ _ (rw (to_z-of_z l, to_z-of_z h) at c.if-h-l.true)))))

pub loop-l-preserved : goal.loop-l-preserved
loop-l-preserved c =
    let n = c.args.n in
    let i = length c.loop-l.yielded in
    let turn = zip_turn (take n c.args.lo) (take n c.args.hi) c.loop-l.yielded c.into_iter-l-iterator.result
    c.loop-l.l-iterator c.next.new.self c.next.result (search rules) (search rules) c.loop-l.yielded_by
    _ c.in-Some.is c.next.ensures.steps in
    let live : i < n = omega (arith, turn.0, length-take n c.args.lo) in
    let low = turn.2 (pos 0) ∙ get_or-take n c.args.lo i (pos 0) live in
    let high = turn.3 (pos 0) ∙ get_or-take n c.args.hi i (pos 0) live in
    let l : SFits w64 c.in-Some.l.now = search rules in
    let h : SFits w64 c.in-Some.h.now = search rules in
    rw (length-append c.loop-l.yielded _)
    (all_more (λ k. le_z (get_or c.args.lo k (pos 0)) (get_or c.args.hi k (pos 0))) i c.loop-l.invariant (rw (← low, ← high) (le-le_z c.in-Some.l.now c.in-Some.h.now (lt_z-false _ _ (rw (to_z-of_z l, to_z-of_z h) at c.if-h-l.false)))))

pub returns : goal.returns
unfolding all_ordered
returns c =
    let n = c.args.n in
    let end = zip_end (take n c.args.lo) (take n c.args.hi) c.loop-l.yielded c.into_iter-l-iterator.result
    c.loop-l.l-iterator c.next.new.self c.next.result (search rules) (search rules) c.loop-l.yielded_by
    c.in-None.is c.next.ensures.steps in
    let some = length-take n c.args.lo in
    let more = length-take n c.args.hi in
    sym (all_done (λ k. le_z (get_or c.args.lo k (pos 0)) (get_or c.args.hi k (pos 0)))
    {i = length c.loop-l.yielded} (omega arith) (omega arith) c.loop-l.invariant)
