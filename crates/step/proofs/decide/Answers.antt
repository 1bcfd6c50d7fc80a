use mathlib.Core.Path.{sym, ap, ◌∙◌}
use mathlib.Core.Bool.{◌&&◌}
use native.Mathlib.Omega.{arith}
use Rattle.lists.proofs.All.{both-and}
use Rattle.intervals.specs.Interval.{inside_i, same_i}
use Rattle.intervals.specs.Places.{side_at}
use Rattle.intervals.proofs.Same.{same_is}
use Rattle.step.proofs.Pass.{pass-none, pass-more, pass-decides, apart-decides}
use Rattle.step.proofs.decide.Goals as goal

pub loop-i-init : goal.loop-i-init
loop-i-init c = pass-none _ _

pub returns-then-not-meets : goal.returns-then-not-meets
returns-then-not-meets c = apart-decides _ _ _ _ c.loop-i-test.true (sym c.meets.ensures ∙ c.if-not-meets.true)

pub loop-i-preserved : goal.loop-i-preserved
loop-i-preserved c =
    let meets = sym c.meets.ensures ∙ c.if-not-meets.false in
    pass-more _ _ (omega arith) c.loop-i.invariant meets c.cut-side.ensures
    (ap (λ t. c.loop-i.inside && t) c.strictly_inside-inside.ensures
    ∙ both-and c.loop-i.inside (inside_i (side_at c.args.x c.loop-i.i) (side_at c.args.k c.loop-i.i)))
    (ap (λ t. c.loop-i.same && t) (c.eq-same.ensures ∙ same_is c.cut-side.result (side_at c.args.x c.loop-i.i))
    ∙ both-and c.loop-i.same (same_i c.cut-side.result (side_at c.args.x c.loop-i.i)))

pub returns-then-inside : goal.returns-then-inside
returns-then-inside c =
    rw c.if-inside.true at (pass-decides _ _ c.loop-i.auto.i-end c.loop-i-test.false c.loop-i.invariant)

pub returns-then-same : goal.returns-then-same
returns-then-same c =
    rw (c.if-inside.false, c.if-same.true) at
    (pass-decides _ _ c.loop-i.auto.i-end c.loop-i-test.false c.loop-i.invariant)

pub returns : goal.returns
returns c =
    rw (c.if-inside.false, c.if-same.false) at
    (pass-decides _ _ c.loop-i.auto.i-end c.loop-i-test.false c.loop-i.invariant)
