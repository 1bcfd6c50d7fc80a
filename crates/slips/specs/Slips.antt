-- What a slip is to its text.
use Rattle.std.specs.Prelude.{Option, Some, None, Ok, Err}
use Rattle.faults.specs.declared.Fault.{Fault}
use Rattle.faults.specs.Checked.{Finding, Status}
use Rattle.slips.specs.declared.RoomSlip.{RoomSlip}
use Rattle.slips.specs.declared.Slip.{Slip}

abbrev pub room_fault : RoomSlip → Fault
room_fault RoomSlip.Full = Fault.Full
room_fault RoomSlip.Visits = Fault.Visits
room_fault RoomSlip.NotOpen = Fault.NotOpen
room_fault RoomSlip.Table = Fault.Table

-- the fault that a slip is
abbrev pub slip_fault : Slip → Fault
slip_fault Slip.Long = Fault.LongText
slip_fault (Slip.Spelled s) = Fault.Spelling
slip_fault (Slip.Unknowns n) = Fault.Unknowns
slip_fault (Slip.Beyond far) = Fault.Beyond
slip_fault (Slip.Crossed at) = Fault.Crossed
slip_fault (Slip.Terms slip) = Fault.Terms
slip_fault Slip.Short = Fault.ShortBuffer
slip_fault (Slip.Steps v) = Fault.Steps
slip_fault (Slip.Pin v slip) = Fault.Pin
slip_fault (Slip.Room slip) = room_fault slip

-- that of a slip, if there is one
abbrev pub fault_of : Option Slip → Finding
fault_of None = Ok tt
fault_of (Some slip) = Err (slip_fault slip)

-- the fault that a reader found
abbrev pub found_in : Status → Finding
found_in (Ok tt) = Ok tt
found_in (Err r) = Err r.fault
