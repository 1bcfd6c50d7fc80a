-- `units::put_both` meets its contract.
use Prim.Native.Nat.{◌≤◌}
use native.Mathlib.Omega.{arith}
use native.Mathlib.Nat.{zero-add}
use mathlib.Core.Path.{ap, ◌∙◌}
use lib.ListN.{length}
use Rattle.faults.proofs.Answer.{no_room}
use Rattle.writing.proofs.Answer.{all-written}
use Rattle.units.specs.Show.{units_of}
use Rattle.units.proofs.Both.{both-written, both-length}
use Rattle.units.proofs.put_both.Goals as goal

pub returns-then-out-room : goal.returns-then-out-room
returns-then-out-room c =
    let r = c.args.r in
    let room = c.put_unknowns-room.ensures.next in
    rw c.refused.ensures
    (no_room (units_of r) c.args.out.now
    (omega (arith, c.if-out-room.true, room, both-length r, ap length c.requires.text)))

pub returns : goal.returns
returns c =
    let r = c.args.r in
    let lines = c.put_unknowns-len.ensures in
    let wrote = both-written r c.requires.text c.put_bytes-at.ensures lines in
    let fits : length (units_of r) ≤ length c.args.out.now =
    omega (arith, c.if-out-room.false, c.put_unknowns-room.ensures.next, both-length r, ap length c.requires.text) in
    rw (wrote.next ∙ zero-add (length (units_of r))) (all-written (units_of r) c.args.out.now fits wrote)
