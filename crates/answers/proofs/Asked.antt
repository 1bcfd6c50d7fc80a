-- ROOM of `halve` and of `reading` is within its limit, given or not.
use Prim.Native.Nat.{◌≤◌, ℕ}
use native.Mathlib.Omega.{arith}
use mathlib.Core.List.{List}
use Rattle.std.specs.Prelude.{Some, None, Option, IfSome, unwrap_or}
use Rattle.sizes.specs.Sizes.{boxes_max, text_max}
use Rattle.arguments.specs.declared.depths.Deep.{Deep}
use Rattle.arguments.specs.declared.visits.Shown.{Shown}
use Rattle.arguments.specs.Depths.{deep_by}
use Rattle.arguments.proofs.Rooms.{deep-few}
use Rattle.arguments.proofs.Buffers.{read_short}
use Rattle.answers.specs.Answers.{not_deep}
use Rattle.answers.specs.Calls.{not_shown, read_asked}

few : (d : Option Deep) → IfSome d (λ e. e.room ≤ boxes_max) → (unwrap_or d not_deep).room ≤ boxes_max
few None h = omega arith
few (Some d) h = h

short : (r : Option Shown) → IfSome r (λ s. s.room ≤ text_max) → (unwrap_or r not_shown).room ≤ text_max
short None h = omega arith
short (Some r) h = h

pub asked_few : (s : List ℕ) → (unwrap_or (deep_by s) not_deep).room ≤ boxes_max
asked_few s = few _ (deep-few s)

pub asked_short : (w : List ℕ) → (read_asked w).room ≤ text_max
unfolding read_asked
asked_short w = short _ (read_short _)
