-- `terms::good_coefs` meets its contract. The loop's invariant: every coefficient passed is within.
use mathlib.Core.Bool.{true}
use mathlib.Core.Path.{◌≡◌}
use lib.IntN.{pos}
use Rattle.sizes.specs.Sizes.{entry_max}
use Rattle.lists.specs.Loops.{all_b}
use Rattle.term_checks.specs.Ranges.{is_within}
use Rattle.jobs.specs.Places.{term_at}
use Rattle.term_checks.proofs.terms.good_coefs.Given as goal

abbrev pub invariant-loop-t : goal.invariant-loop-t
invariant-loop-t l = all_b l.t-index (λ i. is_within (term_at l.fn.q i).coef (pos entry_max)) ≡ true
