-- room_status: a shift by the depth is two to its power.
use Rattle.halving.specs.Halving.{room_status}
use Rattle.halving.proofs.Refusals.{shifted}
use Rattle.halving.proofs.room_status.Goals as goal

pub returns : goal.returns
unfolding room_status
returns c =
    let a = c.args in
    rw (← shifted a.depth a.room c.requires, ← c.bad_unless.ensures) c.on_line.ensures
