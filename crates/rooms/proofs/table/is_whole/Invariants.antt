-- `rooms::table::is_whole` meets its contract. The loop's invariant: every slot passed is free or holds a visit.
use Prim.Native.Nat.{◌-◌, ◌≤◌}
use mathlib.Core.Path.{◌≡◌}
use mathlib.Core.Bool.{true}
use Rattle.lists.specs.Loops.{all_b}
use Rattle.room_form.specs.Table.{rooms_max, room_at, is_whole}
use Rattle.rooms.proofs.table.is_whole.Given as goal

abbrev pub invariant-loop-k : goal.invariant-loop-k
invariant-loop-k l = (l.k ≤ rooms_max) × (all_b l.k (λ i. is_whole (room_at l.table i)) ≡ true)

abbrev pub decreases-loop-k : goal.decreases-loop-k
decreases-loop-k l = rooms_max - l.k
