-- What `halve` is told, `DEPTH ROOM`.
use Rattle.std.specs.Prelude.{List, cond, ℕ, ℤ, ltb, Some, None, Option}
use Rattle.sizes.specs.Sizes.{boxes_max}
use Rattle.arguments.specs.Counts.{count_by}
use Rattle.arguments.specs.Longs.{long_of}
use Rattle.arguments.specs.Words.{space, before, behind}
use Rattle.arguments.specs.declared.depths.Deep.{Deep}

-- a list holds at most two to the power of the greatest depth
unfoldable pub deep_from : Option ℤ → Option ℕ → Option Deep
deep_from (Some depth) (Some room) = cond (ltb boxes_max room) None (Some (record { depth = depth; room = room }))
deep_from (Some depth) None = None
deep_from None room = None

-- DEPTH is the first word, ROOM all that stands behind it
unfoldable pub deep_by : List ℕ → Option Deep
deep_by s = deep_from (long_of (before space s)) (count_by (behind space s))
