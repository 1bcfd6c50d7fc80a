-- `rooms::close` meets its contract.
use mathlib.Core.Path.{refl}
use Rattle.room_form.specs.Calls.{closed}
use Rattle.rooms.proofs.close.Goals as goal

pub returns-in_err-held-clause-table : goal.returns-in_err-held-clause-table
unfolding closed
returns-in_err-held-clause-table c = rw (← c.in_err-held.ensures.status) refl

pub returns-clause-table : goal.returns-clause-table
unfolding closed
returns-clause-table c = rw (← c.in_ok-held.ensures.status) c.wipe.ensures.text
