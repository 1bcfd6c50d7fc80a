-- `rooms::step` meets its contract: 16, 15, then 7, and the reading in the table where it is not finished.
use native.Mathlib.Omega.{arith}
use mathlib.Core.Path.{◌≡◌, sym, ap, ◌∙◌}
use mathlib.Core.Bool.{true, false}
use borrow.Author.Rules.{rules}
use Rattle.faults.specs.Checks.{is_bad}
use Rattle.visits.proofs.Readings.{next-stands}
use Rattle.room_form.specs.Table.{room_at}
use Rattle.room_form.specs.Calls.{after_step, finished}
use Rattle.room_form.proofs.Written.{all-refused}
use Rattle.room_form.proofs.Stepping.{step-refused, step-short, step-finished, step-moved}
use Rattle.rooms.proofs.step.Goals as goal
use Rattle.std.specs.Prelude.{Err}

pub returns-in_err-job-clause-answer : goal.returns-in_err-job-clause-answer
returns-in_err-job-clause-answer c =
    let e : c.from_residual.result ≡ Err c.in_err-job.field-0.0 = search rules in
    rw e (all-refused _ _ (sym c.in_err-job.ensures.status))

pub returns-in_err-job-clause-table : goal.returns-in_err-job-clause-table
returns-in_err-job-clause-table c =
    step-refused c.args.table.now c.args.slot c.args.visit _ (ap is_bad (sym c.in_err-job.ensures.status))

pub write_ready-requires : goal.write_ready-requires
write_ready-requires c =
    rw c.next_reading-next.ensures (next-stands _ _ c.in_ok-job.ensures.visit.stands).reading

pub returns-in_err-len-clause-table : goal.returns-in_err-len-clause-table
returns-in_err-len-clause-table c =
    let args = c.args in
    let good = ap is_bad (sym c.in_ok-job.ensures.status) in
    let next : c.next_reading-next.result ≡ after_step args.table.now args.slot =
    rw c.in_ok-job.ensures.visit.room c.next_reading-next.ensures in
    step-short args.table.now args.slot args.visit good (rw next at c.write_ready.ensures) (ap is_bad c.in_err-len.was)

pub put_reading-requires : goal.put_reading-requires
put_reading-requires c =
    let held = c.in_ok-job.ensures.visit in (
      omega (arith, held.long, held.inside),
      (
        omega (arith, held.inside),
        rw c.next_reading-next.ensures (next-stands _ _ held.stands).reading,
      ),
    )

pub returns-then-not-is_finished-clause-table : goal.returns-then-not-is_finished-clause-table
returns-then-not-is_finished-clause-table c =
    let args = c.args in
    let held = c.in_ok-job.ensures in
    let good = ap is_bad (sym held.status) in
    let next : c.next_reading-next.result ≡ after_step args.table.now args.slot =
    rw held.visit.room c.next_reading-next.ensures in
    let going : finished (room_at args.table.now args.slot) ≡ false =
    rw held.visit.room (sym c.is_finished.ensures ∙ c.if-not-is_finished.true) in
    step-moved args.table.now args.slot args.visit good (rw next at c.write_ready.ensures) (ap is_bad c.in_ok-len.was)
    going (rw next at c.put_reading.ensures)

pub returns-else-not-is_finished-clause-table : goal.returns-else-not-is_finished-clause-table
returns-else-not-is_finished-clause-table c =
    let args = c.args in
    let held = c.in_ok-job.ensures in
    let good = ap is_bad (sym held.status) in
    let next : c.next_reading-next.result ≡ after_step args.table.now args.slot =
    rw held.visit.room c.next_reading-next.ensures in
    let done : finished (room_at args.table.now args.slot) ≡ true =
    rw held.visit.room (sym c.is_finished.ensures ∙ c.if-not-is_finished.false) in
    step-finished args.table.now args.slot args.visit good (rw next at c.write_ready.ensures)
    (ap is_bad c.in_ok-len.was) done
