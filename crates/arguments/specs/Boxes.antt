-- A box, `LO HI`, and what `decide` is told, `N LO HI KLO KHI`.
use Rattle.std.specs.Prelude.{ℕ, List, ℤ, Some, None, Option}
use Rattle.jobs.specs.declared.Ends.{Ends}
use Rattle.arguments.specs.Counts.{count_by}
use Rattle.arguments.specs.Words.{space, before, behind}
use Rattle.arguments.specs.Lists.{places_of}
use Rattle.arguments.specs.declared.boxes.Told.{Told}

unfoldable pub box_from : Option (List ℤ) → Option (List ℤ) → Option Ends
box_from (Some lo) (Some hi) = Some (record { lo = lo; hi = hi })
box_from (Some lo) None = None
box_from None hi = None

-- LO is the first word, HI all that stands behind it
unfoldable pub boxed_by : List ℕ → Option Ends
boxed_by s = box_from (places_of (before space s)) (places_of (behind space s))

unfoldable pub told_from : Option ℕ → Option Ends → Option Ends → Option Told
told_from (Some n) (Some x) (Some k) = Some (record { n = n; x = x; k = k })
told_from (Some n) (Some x) None = None
told_from (Some n) None k = None
told_from None x k = None

-- behind N: LO and HI are a word each, `KLO KHI` is what stands behind them
unfoldable pub told_boxes : Option ℕ → List ℕ → Option Told
told_boxes n s =
    told_from n (box_from (places_of (before space s)) (places_of (before space (behind space s))))
    (boxed_by (behind space (behind space s)))

unfoldable pub told_by : List ℕ → Option Told
told_by s = told_boxes (count_by (before space s)) (behind space s)
