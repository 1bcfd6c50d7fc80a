-- `rooms::clear` meets its contract.
use mathlib.Core.Path.{refl}
use borrow.Author.Tests.{le-leb, lt-leb}
use Rattle.faults.specs.Checks.{bad_unless, on_line}
use Rattle.room_form.specs.Table.{table_size}
use Rattle.room_form.specs.Calls.{cleared}
use Rattle.rooms.proofs.clear.Goals as goal

pub returns-then-table-lt-TABLE : goal.returns-then-table-lt-TABLE
unfolding cleared bad_unless on_line
returns-then-table-lt-TABLE c =
    rw (lt-leb table_size _ c.if-table-lt-TABLE.true) record { answer = c.refused.ensures; table = refl }

pub returns : goal.returns
unfolding cleared bad_unless on_line
returns c =
    rw (le-leb table_size _ c.if-table-lt-TABLE.false) record { answer = refl; table = c.wipe.ensures.text }
