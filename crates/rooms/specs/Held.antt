-- A visit that a slot holds, as the calls on it know it.
use Rattle.std.specs.Prelude.{ℕ, ◌≤◌, ◌<◌, ◌≡◌, List, length}
use Rattle.visits.specs.Visits.{Stands}
use Rattle.room_form.specs.declared.Visit.{Visit}
use Rattle.room_form.specs.declared.Room.{Room}
use Rattle.room_form.specs.Table.{rooms_max, table_size, room_at}

pub record Held (t : List ℕ) (slot : ℕ) (v : Visit) : Type 0 where
  pub long : table_size ≤ length t
  pub inside : slot < rooms_max
  pub room : room_at t slot ≡ Room.Taken v
  pub stands : Stands v.job v.reading
