-- `rooms::table::is_free` meets its contract.
use Prim.Native.Nat.{ℕ}
use native.Mathlib.Omega.{arith}
use mathlib.Core.Path.{sym, ap, ◌∙◌}
use lib.Dec.{eqb}
use Rattle.cells.proofs.Cells.{number_in}
use Rattle.room_form.specs.Table.{slot_from, slot_size, job_from, last_in, slot_in}
use Rattle.room_form.proofs.Free.{free-told}
use Rattle.rooms.proofs.table.is_free.Goals as goal

pub returns : goal.returns
returns c =
    let args = c.args in
    let at = number_in args.table.now (slot_from args.slot) slot_size job_from (omega arith) in
    ap (λ (n : ℕ). eqb n 0) (c.number_at.ensures ∙ sym at)
    ∙ sym (free-told (last_in args.table.now) (slot_in args.table.now args.slot))
