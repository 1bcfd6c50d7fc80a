-- `job_put::rows::entries` meets its contract.
use mathlib.Core.Path.{◌≡◌}
use lib.IntN.{pos}
use Rattle.lists.specs.Loops.{tab}
use Rattle.text.specs.Lists.{places_max}
use Rattle.lines.specs.Texts.{entry_of}
use Rattle.job_put.proofs.rows.entries.Given as goal

abbrev pub invariant-loop-k : goal.invariant-loop-k
invariant-loop-k l = l.all ≡ tab places_max l.k (pos 0) (entry_of l.rows l.n)
