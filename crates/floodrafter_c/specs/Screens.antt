-- What C is answered by opening a room.
use Rattle.std.specs.Prelude.{Ok, Err}
use Rattle.faults.specs.Checked.{Checked}
use Rattle.faults.specs.Words.{fault_number}
use Rattle.room_form.specs.declared.Opened as rooms
use Rattle.floodrafter_c.specs.declared.screens.Opened.{Opened}

-- beside a fault both numbers are zero
abbrev pub opened_by : Checked rooms.Opened → Opened
opened_by (Ok o) = record { fault = 0; line = 0; slot = o.slot; visit = o.visit }
opened_by (Err r) = record { fault = fault_number r.fault; line = r.line; slot = 0; visit = 0 }
