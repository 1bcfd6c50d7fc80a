-- `rooms::table::is_whole` meets its contract.
use native.Mathlib.Omega.{arith}
use mathlib.Core.Path.{sym, ap, ◌∙◌}
use Rattle.lists.proofs.All.{all_none, all_more, all-stop, all_done}
use Rattle.room_form.specs.Table.{rooms_max, is_whole}
use Rattle.room_form.proofs.Whole.{too_few, too_many, by-rooms}
use Rattle.rooms.proofs.table.is_whole.Goals as goal
use Rattle.rooms.proofs.table.is_whole.Goals.{then-table-lt-TABLE-via-then-table-lt-TABLE}
use Rattle.rooms.proofs.table.is_whole.Goals.{then-table-lt-TABLE-via-else-table-lt-TABLE+then-number_at-gt-VISIT}

pub returns-then-table-lt-TABLE : goal.returns-then-table-lt-TABLE
returns-then-table-lt-TABLE c =
    elim c.then-table-lt-TABLE.branch [
      | then-table-lt-TABLE-via-then-table-lt-TABLE w ↦ sym (too_few _ w.if-table-lt-TABLE.true)
      | then-table-lt-TABLE-via-else-table-lt-TABLE+then-number_at-gt-VISIT w ↦
          sym (too_many _ (rw w.number_at.ensures at w.if-number_at-gt-VISIT.true))
    ]

pub loop-k-init : goal.loop-k-init
loop-k-init c = (omega arith, all_none _)

pub returns-then-not-stands : goal.returns-then-not-stands
returns-then-not-stands c =
    let broken = ap is_whole (sym c.room_at.ensures) ∙ sym c.stands.ensures ∙ c.if-not-stands.true in
    sym (by-rooms _ c.if-table-lt-TABLE.false (rw c.number_at.ensures at c.if-number_at-gt-VISIT.false)
    ∙ all-stop _ rooms_max _ c.loop-k-test.true broken)

pub loop-k-preserved : goal.loop-k-preserved
loop-k-preserved c =
    let fine = ap is_whole (sym c.room_at.ensures) ∙ sym c.stands.ensures ∙ c.if-not-stands.false in
    (omega arith, all_more _ _ c.loop-k.invariant.1 fine)

pub returns : goal.returns
returns c =
    let l = c.loop-k in
    sym (by-rooms _ c.if-table-lt-TABLE.false (rw c.number_at.ensures at c.if-number_at-gt-VISIT.false)
    ∙ all_done _ l.invariant.0 c.loop-k-test.false l.invariant.1)
