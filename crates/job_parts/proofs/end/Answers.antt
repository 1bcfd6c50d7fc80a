-- `job_parts::end` meets its contract.
use mathlib.Core.Path.{sym, ◌∙◌}
use Rattle.next_line.specs.State.{line_in, head_of}
use Rattle.next_line.proofs.Rooms.{place-back, line-fits}
use Rattle.job_parts.proofs.Fits.{has-fits}
use Rattle.job_parts.proofs.Ends.{end-beyond, end-long, end-bad, end-held, end-missing, end-done}
use Rattle.job_parts.proofs.end.Goals as goal
use Rattle.job_parts.proofs.end.Goals.{then-p-gt0-via-then-p-gt0, then-p-gt0-via-else-p-gt0+then-read-ne0-2}

pub returns-then-not-within_limits : goal.returns-then-not-within_limits
returns-then-not-within_limits c =
    c.refused.ensures ∙ end-beyond _ (sym c.within_limits.ensures ∙ c.if-not-within_limits.true)

pub returns-then-p-gt-TEXT : goal.returns-then-p-gt-TEXT
returns-then-p-gt-TEXT c =
    c.refused-then-p-gt-TEXT.ensures
    ∙ end-long c.args.p (sym c.within_limits.ensures ∙ c.if-not-within_limits.false) c.if-p-gt-TEXT.true

pub returns-then-read-ne0 : goal.returns-then-read-ne0
returns-then-read-ne0 c =
    rw (c.refused-then-read-ne0.ensures, c.from.ensures)
    (end-bad c.args.p (sym c.within_limits.ensures ∙ c.if-not-within_limits.false) c.if-p-gt-TEXT.false
    c.if-read-ne0.true)

pub job_line_number-missing-requires : goal.job_line_number-missing-requires
job_line_number-missing-requires c =
    let p = c.args.p in
    let fit = has-fits p (sym c.within_limits.ensures ∙ c.if-not-within_limits.false) in
    rw (c.head_of.ensures, c.line_in.ensures)
    (line-fits (line_in p.read.next) (head_of p.read) (rw place-back fit.read.next) fit.read.few)

pub returns-then-p-gt0 : goal.returns-then-p-gt0
returns-then-p-gt0 c =
    let p = c.args.p in
    let fit = sym c.within_limits.ensures ∙ c.if-not-within_limits.false in
    rw (
      c.refused-then-p-gt0.ensures,
      c.job_line_number-missing.ensures,
      c.head_of.ensures,
      c.line_in.ensures,
    )
    (elim c.then-p-gt0.branch [
      | then-p-gt0-via-then-p-gt0 w ↦ end-held p fit c.if-p-gt-TEXT.false c.if-read-ne0.false w.if-p-gt0.true
      | then-p-gt0-via-else-p-gt0+then-read-ne0-2 w ↦
          end-missing p fit c.if-p-gt-TEXT.false c.if-read-ne0.false w.if-p-gt0.false w.if-read-ne0-2.true
    ])

pub returns : goal.returns
returns c =
    rw c.job_of.ensures
    (end-done c.args.p (sym c.within_limits.ensures ∙ c.if-not-within_limits.false) c.if-p-gt-TEXT.false
    c.if-read-ne0.false c.if-p-gt0.false c.if-read-ne0-2.false)
