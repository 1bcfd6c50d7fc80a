-- d_vector: each product and each sum of them fits, and so does the sum that is rounded.
use mathlib.Core.Path.{ap, ◌∙◌}
use native.Mathlib.Omega.{arith}
use borrow.Author.Rules.{rules}
use mir.Facts.{to_z-of_z}
use mir.Syntax.{w64}
use mir.Val.{SFits}
use Rattle.sizes.specs.Sizes.{n_max}
use Rattle.lists.proofs.Tab.{tab-more}
use Rattle.intervals.specs.Interval.{zero_i, out_i}
use Rattle.intervals.specs.Places.{entry_at}
use Rattle.matrices.proofs.Turns.{dot-done}
use Rattle.matrices.specs.Products.{d_of}
use Rattle.matrices.proofs.Ranges.{product-fits, more-fits, round-fits, dot-d}
use Rattle.matrices.proofs.d_vector.Goals as goal

pub mul_point-requires : goal.mul_point-requires
mul_point-requires c =
    let read : SFits w64 (entry_at c.args.c c.loop-i.i c.loop-k.k) = search rules in
    let within = dot-d c.requires c.loop-i.i c.loop-i-test.true in
    simp (to_z-of_z, read) (product-fits within c.loop-k.k c.loop-k-test.true)

pub add-sum-requires : goal.add-sum-requires
add-sum-requires c =
    let read : SFits w64 (entry_at c.args.c c.loop-i.i c.loop-k.k) = search rules in
    let within = dot-d c.requires c.loop-i.i c.loop-i-test.true in
    let product = simp (to_z-of_z, read) at c.mul_point.ensures in
    more-fits within c.loop-k.k c.loop-k-test.true c.loop-k.invariant product

pub outward-requires : goal.outward-requires
outward-requires c =
    let sum = dot-done _ _ c.loop-k.auto.k-end c.loop-k-test.false c.loop-k.invariant in
    round-fits (dot-d c.requires c.loop-i.i c.loop-i-test.true) sum

pub loop-i-preserved : goal.loop-i-preserved
unfolding d_of
loop-i-preserved c =
    let sum = dot-done _ _ c.loop-k.auto.k-end c.loop-k-test.false c.loop-k.invariant in
    tab-more zero_i n_max _ _ (omega arith) c.loop-i.invariant (c.outward.ensures ∙ ap out_i sum)
