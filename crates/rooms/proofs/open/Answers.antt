-- `rooms::open` meets its contract: 16, the job's own, 13, 14, and a visitor.
use Prim.Native.Nat.{◌≤◌}
use native.Mathlib.Omega.{arith}
use mathlib.Core.Path.{◌≡◌, refl, sym, ap, ◌∙◌}
use borrow.Author.Rules.{rules}
use Rattle.faults.specs.Checked.{Checked, status_of}
use Rattle.faults.specs.Checks.{is_bad}
use Rattle.jobs.specs.declared.Job.{Job}
use Rattle.job_form.proofs.Answers.{read-checked}
use Rattle.visits.proofs.Readings.{opened-right}
use Rattle.room_form.specs.Table.{rooms_max}
use Rattle.room_form.specs.Calls.{lowest_free, open_answer, opened}
use Rattle.room_form.proofs.Whole.{whole_long}
use Rattle.room_form.proofs.Opening.{no_table, no-job, is-full, no-visit, is-opened, not_opened, job-short}
use Rattle.rooms.proofs.open.Goals as goal
use Rattle.std.specs.Prelude.{Err}

pub returns-then-not-is_whole : goal.returns-then-not-is_whole
returns-then-not-is_whole c =
    let both = not_opened c.args.table.now c.args.text.now
    (no_table _ _ (sym c.is_whole.ensures ∙ c.if-not-is_whole.true)) in
    rw c.refused.ensures record { answer = both.0; table = both.1 }

pub returns-in_err-job : goal.returns-in_err-job
returns-in_err-job c =
    let e : c.from_residual.result ≡ Err c.in_err-job.field-0.0 = search rules in
    let whole = sym c.is_whole.ensures ∙ c.if-not-is_whole.false in
    let status = sym (ap (λ (x : Checked Job). status_of x) c.in_err-job.ensures) in
    let both = not_opened c.args.table.now c.args.text.now (no-job _ _ whole (ap is_bad status) ∙ status) in
    rw e record { answer = both.0; table = both.1 }

pub lowest_free-requires : goal.lowest_free-requires
lowest_free-requires c = whole_long _ (sym c.is_whole.ensures ∙ c.if-not-is_whole.false)

pub returns-in_default : goal.returns-in_default
returns-in_default c =
    let whole = sym c.is_whole.ensures ∙ c.if-not-is_whole.false in
    let right = sym (ap (λ (x : Checked Job). is_bad (status_of x)) c.in_ok-job.ensures) in
    let full : rooms_max ≤ lowest_free c.args.table.now = omega (arith, c.in_default.ensures.lowest) in
    let both = not_opened c.args.table.now c.args.text.now (is-full _ _ whole right full) in
    rw c.refused-in_default.ensures record { answer = both.0; table = both.1 }

pub number_at-last-requires : goal.number_at-last-requires
number_at-last-requires c = omega (arith, whole_long _ (sym c.is_whole.ensures ∙ c.if-not-is_whole.false))

pub returns-then-last-ge-VISIT : goal.returns-then-last-ge-VISIT
returns-then-last-ge-VISIT c =
    let whole = sym c.is_whole.ensures ∙ c.if-not-is_whole.false in
    let right = sym (ap (λ (x : Checked Job). is_bad (status_of x)) c.in_ok-job.ensures) in
    let room = rw c.in-Some.ensures.lowest at c.in-Some.ensures.slot in
    let last = rw c.number_at-last.ensures at c.if-last-ge-VISIT.true in
    let both = not_opened c.args.table.now c.args.text.now (no-visit _ _ whole right room last) in
    rw c.refused-then-last-ge-VISIT.ensures record { answer = both.0; table = both.1 }

pub first_reading-requires : goal.first_reading-requires
first_reading-requires c =
    let done = sym (ap (λ (x : Checked Job). status_of x) c.in_ok-job.ensures) in
    rw (← c.in_ok-job.ensures) at (read-checked c.args.text.now done)

pub put_visitor-requires : goal.put_visitor-requires
put_visitor-requires c =
    let text = c.args.text.now in
    let done = sym (ap (λ (x : Checked Job). status_of x) c.in_ok-job.ensures) in
    record {
      table_size_in_bounds = (
        whole_long _ (sym c.is_whole.ensures ∙ c.if-not-is_whole.false),
        c.in-Some.ensures.slot,
      );
      r_value = (
        rw c.first_reading.ensures
            (opened-right _ (rw (← c.in_ok-job.ensures) at (read-checked text done)) _
            (omega (arith, c.if-last-ge-VISIT.false))),
        job-short text done,
      );
    }

pub returns : goal.returns
unfolding open_answer opened
returns c =
    let whole = sym c.is_whole.ensures ∙ c.if-not-is_whole.false in
    let right = sym (ap (λ (x : Checked Job). is_bad (status_of x)) c.in_ok-job.ensures) in
    let room = rw c.in-Some.ensures.lowest at c.in-Some.ensures.slot in
    let left = rw c.number_at-last.ensures at c.if-last-ge-VISIT.false in
    rw (
      is-opened c.args.table.now c.args.text.now whole right room left,
      ← c.in-Some.ensures.lowest,
      ← c.number_at-last.ensures,
      ← c.in_ok-job.ensures,
    )
    record { answer = refl; table = rw c.first_reading.ensures at c.put_visitor.ensures }
