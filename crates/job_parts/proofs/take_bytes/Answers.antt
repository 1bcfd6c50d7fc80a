-- `job_parts::take_bytes` meets its contract.
use native.Mathlib.Omega.{arith}
use mathlib.Core.Path.{refl}
use lib.ListN.{get_or, length-set}
use borrow.Author.Rules.{rules}
use Rattle.next_line.proofs.Fits.{fits_read}
use Rattle.job_parts.proofs.Fits.{has-fits}
use Rattle.job_parts.proofs.Takes.{going-over, going-line, going-byte, going_done, line_stays, feed-ends}
use Rattle.job_parts.proofs.take_bytes.Goals as goal
use Rattle.job_parts.proofs.take_bytes.Goals.{then-b-eq10+then-s-eq0, then-b-eq10+else-s-eq0, else-b-eq10}

pub loop-b-init : goal.loop-b-init
loop-b-init c = (search rules, record { inside = omega arith; fit = has-fits _ c.requires; same = refl })

pub returns-then-s-ge-TEXT : goal.returns-then-s-ge-TEXT
returns-then-s-ge-TEXT c = going-over _ _ c.loop-b.invariant.1 c.loop-b-test.true c.if-s-ge-TEXT.true

pub line_taken-s-requires-clause-line_in_bounds : goal.line_taken-s-requires-clause-line_in_bounds
line_taken-s-requires-clause-line_in_bounds c =
    let going = c.loop-b.invariant.1 in (
      feed-ends c.loop-b.s.bytes c.loop-b.s.held (get_or c.args.part.now c.loop-b.b-index 0)
          (rw c.loop-b.invariant.0 (omega (arith, c.if-s-ge-TEXT.false, going.fit.come))) c.if-b-eq10.true,
      fits_read _ going.fit.read,
    )

pub loop-b-preserved : goal.loop-b-preserved
loop-b-preserved c =
    let going = c.loop-b.invariant.1 in
    let long = c.loop-b.invariant.0 in
    elim c.if-b-eq10.branch [
      | then-b-eq10+then-s-eq0 w ↦
          rw (w.s-is, w.line_taken-s.ensures) (
            rw (length-set _ _ _) long,
            going-line _ _ going c.loop-b-test.true c.if-s-ge-TEXT.false w.if-b-eq10.true,
          )
      | then-b-eq10+else-s-eq0 w ↦
          rw w.s-is (
            rw (length-set _ _ _) long,
            rw (line_stays c.loop-b.s.read _ w.if-s-eq0.false) at
                (going-line _ _ going c.loop-b-test.true c.if-s-ge-TEXT.false w.if-b-eq10.true),
          )
      | else-b-eq10 w ↦
          rw w.s-is (
            rw (length-set _ _ _) long,
            going-byte _ _ going c.loop-b-test.true c.if-s-ge-TEXT.false w.if-b-eq10.false,
          )
    ]

pub returns : goal.returns
returns c = going_done _ _ c.loop-b.invariant.1 c.loop-b-test.false
