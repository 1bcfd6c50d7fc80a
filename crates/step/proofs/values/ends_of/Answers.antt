-- ends_of: the low ends and the high ends of the sides.
use mathlib.Core.Path.{ap₂}
use mathlib.Core.List.{List}
use lib.IntN.{ℤ}
use borrow.Author.Rules.{rules}
use Rattle.intervals.specs.Places.{side_at}
use Rattle.jobs.specs.declared.Ends.{Ends}
use Rattle.step.proofs.values.ends_of.Goals as goal

abbrev ends : List ℤ → List ℤ → Ends
ends lo hi = record { lo = lo; hi = hi }

pub returns : goal.returns
returns c =
    ap₂ ends
    (c.filled.ensures (λ k. (side_at c.args.x k).lo) (λ k r l p. search rules))
    (c.filled-2.ensures (λ k. (side_at c.args.x k).hi) (λ k r l p. search rules))
