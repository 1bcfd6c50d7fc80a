-- `terms::stands_before` meets its contract. The loop's invariant: the exponents passed are the same.
use mathlib.Core.Path.{◌≡◌}
use mathlib.Core.Bool.{true}
use lib.ListN.{length}
use Rattle.term_checks.specs.Terms.{alike}
use Rattle.term_checks.proofs.terms.stands_before.Given as goal

abbrev pub invariant-loop-low : goal.invariant-loop-low
invariant-loop-low l = alike l.fn.t l.fn.u (length l.yielded) ≡ true
