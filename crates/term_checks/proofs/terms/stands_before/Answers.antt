use Prim.Native.Nat.{◌<◌}
use mathlib.Core.Path.{refl, sym, ◌∙◌}
use native.Mathlib.Omega.{arith}
use borrow.Author.Rules.{rules}
use borrow.Author.Tests.{eq-eqb}
use lib.Dec.{eqb}
use lib.ListN.{length, take}
use Rattle.std.proofs.Common.{length-take, length-append}
use Rattle.std.proofs.lemmas.List.{get_or-take}
use Rattle.std.proofs.lemmas.Slice.Zip.{zip_turn, zip_end}
use Rattle.lists.specs.Loops.{all_b}
use Rattle.lists.proofs.All.{all_more, all_done}
use Rattle.jobs.specs.Places.{exp_of}
use Rattle.term_checks.specs.Terms.{alike}
use Rattle.term_checks.proofs.TermLaws.{falls-same, falls-differ}
use Rattle.term_checks.proofs.terms.stands_before.Goals as goal

pub loop-low-init : goal.loop-low-init
unfolding alike all_b
loop-low-init c = refl

pub returns-then-low-high : goal.returns-then-low-high
returns-then-low-high c =
    let n = c.args.n in
    let t = c.args.t in
    let u = c.args.u in
    let i = length c.loop-low.yielded in
    let turn = zip_turn (take n u.exps) (take n t.exps) c.loop-low.yielded c.into_iter-low-iterator.result
    c.loop-low.low-iterator c.next.new.self c.next.result (search rules) (search rules) c.loop-low.yielded_by
    _ c.in-Some.is c.next.ensures.steps in
    let live : i < n = omega (arith, turn.0, length-take n u.exps) in
    let low = turn.2 0 ∙ get_or-take n u.exps i 0 live in
    let high = turn.3 0 ∙ get_or-take n t.exps i 0 live in
    rw (low, high)
    (sym (falls-differ t u n i live c.loop-low.invariant (λ e. c.if-low-high.true (low ∙ e ∙ sym high))))

pub loop-low-preserved : goal.loop-low-preserved
unfolding alike
loop-low-preserved c =
    let n = c.args.n in
    let t = c.args.t in
    let u = c.args.u in
    let i = length c.loop-low.yielded in
    let turn = zip_turn (take n u.exps) (take n t.exps) c.loop-low.yielded c.into_iter-low-iterator.result
    c.loop-low.low-iterator c.next.new.self c.next.result (search rules) (search rules) c.loop-low.yielded_by
    _ c.in-Some.is c.next.ensures.steps in
    let live : i < n = omega (arith, turn.0, length-take n u.exps) in
    let low = turn.2 0 ∙ get_or-take n u.exps i 0 live in
    let high = turn.3 0 ∙ get_or-take n t.exps i 0 live in
    rw (length-append c.loop-low.yielded _)
    (all_more (λ k. eqb (exp_of t k) (exp_of u k)) i c.loop-low.invariant
    (eq-eqb (exp_of t i) (exp_of u i) (sym high ∙ sym c.if-low-high.false ∙ low)))

pub returns : goal.returns
unfolding alike
returns c =
    let n = c.args.n in
    let t = c.args.t in
    let u = c.args.u in
    let end = zip_end (take n u.exps) (take n t.exps) c.loop-low.yielded c.into_iter-low-iterator.result
    c.loop-low.low-iterator c.next.new.self c.next.result (search rules) (search rules) c.loop-low.yielded_by
    c.in-None.is c.next.ensures.steps in
    let some = length-take n u.exps in
    let more = length-take n t.exps in
    sym (falls-same t u n (all_done (λ k. eqb (exp_of t k) (exp_of u k))
    {i = length c.loop-low.yielded} (omega arith) (omega arith) c.loop-low.invariant))
