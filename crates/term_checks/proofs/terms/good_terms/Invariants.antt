-- `terms::good_terms` meets its contract. The loop's invariant: every term passed is good.
use mathlib.Core.Bool.{true}
use mathlib.Core.Path.{◌≡◌}
use Rattle.lists.specs.Loops.{all_b}
use Rattle.term_checks.specs.Terms.{good_place}
use Rattle.term_checks.proofs.terms.good_terms.Given as goal

abbrev pub invariant-loop-k : goal.invariant-loop-k
invariant-loop-k l = all_b l.k (good_place l.q l.n) ≡ true
