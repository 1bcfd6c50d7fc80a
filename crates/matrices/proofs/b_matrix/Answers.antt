-- b_matrix: each product and each sum of them fits, and so does what is rounded.
use mathlib.Core.Path.{ap, ap₂, ◌∙◌}
use native.Mathlib.Omega.{arith}
use borrow.Author.Rules.{rules}
use mir.Facts.{to_z-of_z}
use mir.Syntax.{w64}
use mir.Val.{SFits}
use Rattle.intervals.specs.Places.{entry_at}
use Rattle.sizes.specs.Sizes.{n_max}
use Rattle.lists.proofs.Tab.{tab-more}
use Rattle.intervals.specs.Interval.{zero_i, add_i, neg_i, out_i}
use Rattle.matrices.proofs.Turns.{dot-done}
use Rattle.matrices.specs.Products.{entry_b, b_of}
use Rattle.matrices.proofs.Ranges.{product-fits, more-fits}
use Rattle.matrices.proofs.Ranges.{dot-b, turned-fits, rest-fits, round-rest}
use Rattle.matrices.proofs.b_matrix.Goals as goal

pub mul_point-requires : goal.mul_point-requires
mul_point-requires c =
    let read : SFits w64 (entry_at c.args.c c.loop-i.i c.loop-k.k) = search rules in
    let within = dot-b c.requires c.loop-i.i c.loop-i-test.true c.loop-j.j c.loop-j-test.true in
    simp (to_z-of_z, read) (product-fits within c.loop-k.k c.loop-k-test.true)

pub add-sum-requires : goal.add-sum-requires
add-sum-requires c =
    let read : SFits w64 (entry_at c.args.c c.loop-i.i c.loop-k.k) = search rules in
    let within = dot-b c.requires c.loop-i.i c.loop-i-test.true c.loop-j.j c.loop-j-test.true in
    let product = simp (to_z-of_z, read) at c.mul_point.ensures in
    more-fits within c.loop-k.k c.loop-k-test.true c.loop-k.invariant product

pub negated-requires : goal.negated-requires
negated-requires c =
    let sum = dot-done _ _ c.loop-k.auto.k-end c.loop-k-test.false c.loop-k.invariant in
    turned-fits c.requires c.loop-i.i c.loop-i-test.true c.loop-j.j c.loop-j-test.true sum

pub add-requires : goal.add-requires
add-requires c =
    let sum = dot-done _ _ c.loop-k.auto.k-end c.loop-k-test.false c.loop-k.invariant in
    rest-fits c.requires c.loop-i.i c.loop-i-test.true c.loop-j.j c.loop-j-test.true
    c.unit.ensures
    (c.negated.ensures ∙ ap neg_i sum)

pub outward-requires : goal.outward-requires
outward-requires c =
    let sum = dot-done _ _ c.loop-k.auto.k-end c.loop-k-test.false c.loop-k.invariant in
    round-rest c.requires c.loop-i.i c.loop-i-test.true c.loop-j.j c.loop-j-test.true
    (c.add.ensures ∙ ap₂ add_i c.unit.ensures (c.negated.ensures ∙ ap neg_i sum))

pub loop-j-preserved : goal.loop-j-preserved
unfolding b_of entry_b
loop-j-preserved c =
    let sum = dot-done _ _ c.loop-k.auto.k-end c.loop-k-test.false c.loop-k.invariant in
    let rest = c.add.ensures ∙ ap₂ add_i c.unit.ensures (c.negated.ensures ∙ ap neg_i sum) in
    tab-more zero_i n_max _ _ (omega arith) c.loop-j.invariant (c.outward.ensures ∙ ap out_i rest)
