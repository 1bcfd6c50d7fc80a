-- ROOM of `reading` is no more than a text has.
use mathlib.Core.Bool.{Bool, true, false, cond}
use mathlib.Core.List.{List}
use mathlib.Core.Path.{◌≡◌, refl}
use Prim.Native.Nat.{ℕ, ◌≤◌}
use borrow.Author.Tests.{ltb-false}
use lib.Dec.{ltb}
use Rattle.sizes.specs.Sizes.{text_max}
use Rattle.arguments.specs.Visits.{shown_from, shown_in, read_by}
use Rattle.arguments.specs.declared.visits.Shown.{Shown}
use Rattle.std.specs.Prelude.{Some, None, Option, IfSome}

from-short : (slot visit room : Option ℕ) → IfSome (shown_from slot visit room) (λ r. r.room ≤ text_max)
unfolding shown_from
from-short (Some slot) (Some visit) (Some room) = by (ltb text_max room) refl
  where
    by : (b : Bool) → ltb text_max room ≡ b
        → IfSome {T = Shown} (cond b None (Some (record { slot = slot; visit = visit; room = room })))
        (λ r. r.room ≤ text_max)
    by true e = tt
    by false e = ltb-false text_max room e
from-short (Some slot) (Some visit) None = tt
from-short (Some slot) None room = tt
from-short None visit room = tt

pub read_short : (s : List ℕ) → IfSome (read_by s) (λ r. r.room ≤ text_max)
unfolding read_by shown_in
read_short s = from-short _ _ _
