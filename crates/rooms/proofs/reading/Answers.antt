-- `rooms::reading` meets its contract.
use mathlib.Core.Path.{◌≡◌, sym}
use borrow.Author.Rules.{rules}
use Rattle.room_form.proofs.Written.{all-refused}
use Rattle.rooms.proofs.reading.Goals as goal
use Rattle.std.specs.Prelude.{Err}

pub returns-in_err-held : goal.returns-in_err-held
returns-in_err-held c =
    let e : c.from_residual.result ≡ Err c.in_err-held.field-0.0 = search rules in
    rw e (all-refused _ _ (sym c.in_err-held.ensures.status))

pub returns : goal.returns
returns c = rw (← c.in_ok-held.ensures.status, c.in_ok-held.ensures.visit.room) c.write_ready.ensures
