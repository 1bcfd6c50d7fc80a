-- joined: each turn makes one coordinate of K.
use mathlib.Core.Path.{◌≡◌}
use Rattle.sizes.specs.Sizes.{n_max}
use Rattle.lists.specs.Loops.{tab}
use Rattle.intervals.specs.Interval.{zero_i, add_i, neg_i}
use Rattle.intervals.specs.Places.{side_at}
use Rattle.step.proofs.joined.Given as goal

abbrev pub invariant-loop-i : goal.invariant-loop-i
invariant-loop-i l =
    l.k ≡ tab n_max l.i zero_i (λ j. add_i (add_i (side_at l.m j) (neg_i (side_at l.d j))) (side_at l.e j))
