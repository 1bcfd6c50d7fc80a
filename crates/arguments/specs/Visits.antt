-- What `step` and `close`, `SLOT VISIT`, and `reading`, `SLOT VISIT ROOM`, are told.
use Rattle.std.specs.Prelude.{List, cond, ℕ, ltb, Some, None, Option}
use Rattle.sizes.specs.Sizes.{text_max}
use Rattle.arguments.specs.Counts.{count_by}
use Rattle.arguments.specs.Words.{space, before, behind}
use Rattle.arguments.specs.declared.visits.Shown.{Shown}

-- a buffer has at most as many bytes as a text
unfoldable pub shown_from : Option ℕ → Option ℕ → Option ℕ → Option Shown
shown_from (Some slot) (Some visit) (Some room) =
    cond (ltb text_max room) None (Some (record { slot = slot; visit = visit; room = room }))
shown_from (Some slot) (Some visit) None = None
shown_from (Some slot) None room = None
shown_from None visit room = None

-- SLOT is the first word, VISIT all that stands behind it; the buffer is one for any text
unfoldable pub shown_by : List ℕ → Option Shown
shown_by s = shown_from (count_by (before space s)) (count_by (behind space s)) (Some text_max)

-- behind SLOT: VISIT is a word, ROOM all that stands behind it
unfoldable pub shown_in : Option ℕ → List ℕ → Option Shown
shown_in slot s = shown_from slot (count_by (before space s)) (count_by (behind space s))

unfoldable pub read_by : List ℕ → Option Shown
read_by s = shown_in (count_by (before space s)) (behind space s)
