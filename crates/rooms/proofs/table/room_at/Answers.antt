-- `rooms::table::room_at` meets its contract.
use Rattle.room_form.specs.Table.{slot_from, slot_size}
use Rattle.cells.proofs.Parts.{cut-part}
use Rattle.rooms.proofs.table.room_at.Goals as goal

pub returns : goal.returns
returns c =
    let slot = cut-part c.args.table.now (slot_from c.args.slot) slot_size in
    rw (slot, c.number_at-last.ensures) at c.room_of.ensures
