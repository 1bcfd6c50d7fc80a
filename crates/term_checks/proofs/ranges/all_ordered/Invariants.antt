-- `ranges::all_ordered` meets its contract. The loop's invariant: every place passed is in order.
use mathlib.Core.Path.{◌≡◌}
use mathlib.Core.Bool.{true}
use lib.IntN.{pos}
use lib.ListN.{get_or, length}
use lib.Signed.{le_z}
use Rattle.lists.specs.Loops.{all_b}
use Rattle.term_checks.proofs.ranges.all_ordered.Given as goal

abbrev pub invariant-loop-l : goal.invariant-loop-l
invariant-loop-l l = all_b (length l.yielded) (λ k. le_z (get_or l.fn.lo k (pos 0)) (get_or l.fn.hi k (pos 0))) ≡ true
