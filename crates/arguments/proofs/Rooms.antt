-- ROOM is no more than so many halvings list.
use mathlib.Core.Bool.{Bool, true, false, cond}
use mathlib.Core.List.{List}
use mathlib.Core.Path.{◌≡◌, refl}
use Prim.Native.Nat.{ℕ, ◌≤◌}
use borrow.Author.Tests.{ltb-false}
use lib.Dec.{ltb}
use Rattle.sizes.specs.Sizes.{boxes_max}
use Rattle.arguments.specs.Depths.{deep_from, deep_by}
use Rattle.arguments.specs.declared.depths.Deep.{Deep}
use Rattle.std.specs.Prelude.{ℤ, Some, None, Option, IfSome}

from-few : (depth : Option ℤ) (room : Option ℕ) → IfSome (deep_from depth room) (λ d. d.room ≤ boxes_max)
unfolding deep_from
from-few (Some d) (Some room) = by (ltb boxes_max room) refl
  where
    by : (b : Bool) → ltb boxes_max room ≡ b
        → IfSome {T = Deep} (cond b None (Some (record { depth = d; room = room }))) (λ e. e.room ≤ boxes_max)
    by true e = tt
    by false e = ltb-false boxes_max room e
from-few (Some d) None = tt
from-few None room = tt

pub deep-few : (s : List ℕ) → IfSome (deep_by s) (λ d. d.room ≤ boxes_max)
unfolding deep_by
deep-few s = from-few _ _
