-- `ranges::all_within` meets its contract. The loop's invariant: every place passed is within.
use mathlib.Core.Path.{◌≡◌}
use mathlib.Core.Bool.{true}
use lib.IntN.{pos}
use lib.ListN.{get_or}
use Rattle.lists.specs.Loops.{all_b}
use Rattle.term_checks.specs.Ranges.{is_within}
use Rattle.term_checks.proofs.ranges.all_within.Given as goal

abbrev pub invariant-loop-x : goal.invariant-loop-x
invariant-loop-x l = all_b l.x-index (λ k. is_within (get_or l.fn.xs k (pos 0)) l.most) ≡ true
