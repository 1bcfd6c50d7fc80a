-- `rooms::held` meets its contract: 16, then 15.
use mathlib.Core.Path.{◌≡◌, refl, sym, ◌∙◌}
use mathlib.Core.Bool.{false}
use borrow.Author.Tests.{lt-ltb, le-ltb}
use Rattle.faults.specs.Checks.{is_bad, bad_unless, on_line, and_then}
use Rattle.room_form.specs.declared.Visit.{Visit}
use Rattle.room_form.specs.declared.Room.{Room}
use Rattle.room_form.specs.Table.{rooms_max}
use Rattle.room_form.specs.Calls.{is_taken, held_status}
use Rattle.room_form.proofs.Whole.{whole_long}
use Rattle.room_form.proofs.Visited.{held-no-table, at-stands}
use Rattle.rooms.proofs.held.Goals as goal
use Rattle.rooms.proofs.held.Goals.{in_default-via-in-Taken+else-is_numbered, in_default-via-in_default}

not-taken : (room : Room) → ((v : Visit) → room ≡ Room.Taken v → ⊥) → is_taken room ≡ false
not-taken Room.Free other = refl
not-taken (Room.Taken v) other = absurd (other v refl)
not-taken Room.Broken other = refl

pub returns-then-not-is_whole-clause-status : goal.returns-then-not-is_whole-clause-status
returns-then-not-is_whole-clause-status c =
    let broken = sym c.is_whole.ensures ∙ c.if-not-is_whole.true in
    rw c.refused.ensures (sym (held-no-table _ _ _ broken))

pub returns-then-slot-clause-status : goal.returns-then-slot-clause-status
unfolding bad_unless on_line and_then
returns-then-slot-clause-status c =
    rw (
      c.refused-then-slot.ensures,
      sym c.is_whole.ensures ∙ c.if-not-is_whole.false,
      le-ltb c.args.slot rooms_max c.if-slot.true,
    )
    refl

pub room_at-requires : goal.room_at-requires
room_at-requires c = (whole_long _ (sym c.is_whole.ensures ∙ c.if-not-is_whole.false), c.if-slot.false)

pub returns-in-Taken-clause-status : goal.returns-in-Taken-clause-status
unfolding bad_unless on_line and_then
returns-in-Taken-clause-status c =
    rw (
      sym c.is_whole.ensures ∙ c.if-not-is_whole.false,
      lt-ltb c.args.slot rooms_max c.if-slot.false,
      sym c.room_at.ensures ∙ c.in-Taken.is,
      sym c.is_numbered.ensures ∙ c.if-is_numbered.true,
    )
    refl

pub returns-in-Taken-clause-visit : goal.returns-in-Taken-clause-visit
unfolding bad_unless on_line and_then
returns-in-Taken-clause-visit c =
    let whole = sym c.is_whole.ensures ∙ c.if-not-is_whole.false in
    let room = sym c.room_at.ensures ∙ c.in-Taken.is in
    let done : is_bad (held_status c.args.table.now c.args.slot c.args.visit) ≡ false =
    rw (
      whole,
      lt-ltb c.args.slot rooms_max c.if-slot.false,
      room,
      sym c.is_numbered.ensures ∙ c.if-is_numbered.true,
    )
    refl in
    record {
      long = whole_long _ whole;
      inside = c.if-slot.false;
      room = room;
      stands = rw room at (at-stands c.args.table.now c.args.slot c.args.visit done);
    }

pub returns-in_default-clause-status : goal.returns-in_default-clause-status
unfolding bad_unless on_line and_then
returns-in_default-clause-status c =
    rw (
      c.refused-in_default.ensures,
      sym c.is_whole.ensures ∙ c.if-not-is_whole.false,
      lt-ltb c.args.slot rooms_max c.if-slot.false,
      ← c.room_at.ensures,
    )
    (elim c.in_default.branch [
      | in_default-via-in-Taken+else-is_numbered w ↦
          rw (w.in-Taken.is, sym w.is_numbered.ensures ∙ w.if-is_numbered.false) refl
      | in_default-via-in_default w ↦ rw (not-taken _ w.in_default.not-Taken) refl
    ])
