-- `job::good_matrix` meets its contract. The loop's invariant: every row passed is within.
use mathlib.Core.Bool.{true}
use mathlib.Core.Path.{◌≡◌}
use Rattle.lists.specs.Loops.{all_b}
use Rattle.jobs.specs.Places.{row_at}
use Rattle.checks.specs.Checks.{good_entries}
use Rattle.checks.proofs.job.good_matrix.Given as goal

abbrev pub invariant-loop-row : goal.invariant-loop-row
invariant-loop-row l = all_b l.row-index (λ k. good_entries (row_at l.fn.rows k) l.n) ≡ true
