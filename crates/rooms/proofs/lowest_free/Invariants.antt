-- `rooms::lowest_free` meets its contract. The loop's invariant: no slot passed is free.
use Prim.Native.Nat.{◌-◌, ◌≤◌}
use mathlib.Core.Path.{◌≡◌}
use Rattle.room_form.specs.Table.{rooms_max, room_at}
use Rattle.room_form.specs.Calls.{is_free, first_from, lowest_free}
use Rattle.rooms.proofs.lowest_free.Given as goal

abbrev pub invariant-loop-k : goal.invariant-loop-k
invariant-loop-k l =
    (l.k ≤ rooms_max) × (lowest_free l.table ≡ first_from (rooms_max - l.k)
    (λ i. is_free (room_at l.table i)) l.k)

abbrev pub decreases-loop-k : goal.decreases-loop-k
decreases-loop-k l = rooms_max - l.k
