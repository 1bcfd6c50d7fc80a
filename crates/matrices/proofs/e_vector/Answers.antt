-- e_vector: each product and each sum of them fits, and so does the sum that is rounded.
use Rattle.matrices.proofs.Turns.{dot-done}
use Rattle.matrices.proofs.Ranges.{product-fits, more-fits, round-fits, dot-e}
use Rattle.matrices.proofs.e_vector.Goals as goal

pub mul_around-requires : goal.mul_around-requires
mul_around-requires c =
    let pre = c.requires in
    let k = c.loop-k.k in
    record {
      exact = product-fits (dot-e pre c.loop-i.i c.loop-i-test.true) k c.loop-k-test.true;
      around = pre.around k c.loop-k-test.true;
    }

pub add-sum-requires : goal.add-sum-requires
add-sum-requires c =
    let within = dot-e c.requires c.loop-i.i c.loop-i-test.true in
    more-fits within c.loop-k.k c.loop-k-test.true c.loop-k.invariant c.mul_around.ensures

pub outward-requires : goal.outward-requires
outward-requires c =
    let sum = dot-done _ _ c.loop-k.auto.k-end c.loop-k-test.false c.loop-k.invariant in
    round-fits (dot-e c.requires c.loop-i.i c.loop-i-test.true) sum
