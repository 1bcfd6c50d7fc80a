-- `terms::degree_of` meets its contract. The loop's invariant bounds the sum by 255 for each exponent passed, so that
-- it fits.
use mathlib.Core.Path.{◌≡◌}
use Prim.Native.Nat.{◌≤◌, ◌+◌, ◌*◌}
use lib.ListN.{get_or}
use Rattle.lists.specs.Loops.{carry}
use Rattle.term_checks.proofs.terms.degree_of.Given as goal

abbrev pub invariant-loop-e : goal.invariant-loop-e
invariant-loop-e l = (l.sum ≤ 255 * l.e-index) × (l.sum ≡ carry l.e-index 0 (λ i d. d + get_or l.fn.t.exps i 0))
