-- `job_put::put_body` meets its contract.
use native.Mathlib.Omega.{arith}
use Rattle.sizes.specs.Sizes.{end_max}
use Rattle.digits.specs.Number.{digits_max}
use Rattle.writing.proofs.Wrote.{wrote-line, wrote-last}
use Rattle.lines.proofs.Checks.{within-below}
use Rattle.job_put.proofs.Parts.{body-long}
use Rattle.job_put.proofs.put_body.Goals as goal

pub put_row_line-a-requires : goal.put_row_line-a-requires
put_row_line-a-requires c =
    let j = c.args.j in
    let a = c.requires.accepted in
    record {
      few = a.few;
      wide = omega arith;
      room = omega (arith, c.requires.room);
      small = within-below j.head.n j.ends.lo digits_max end_max (omega arith) a.low;
    }

pub put_row_line-b-requires : goal.put_row_line-b-requires
put_row_line-b-requires c =
    let j = c.args.j in
    let a = c.requires.accepted in
    record {
      few = a.few;
      wide = omega arith;
      room = omega (arith, c.put_row_line-a.ensures.next, body-long j, c.requires.room);
      small = within-below j.head.n j.ends.hi digits_max end_max (omega arith) a.high;
    }

pub put_inverse_line-c-requires : goal.put_inverse_line-c-requires
put_inverse_line-c-requires c =
    let a = c.requires.accepted in
    record {
      some = a.some;
      few = a.few;
      room = omega (
        arith,
        c.put_row_line-a.ensures.next,
        c.put_row_line-b.ensures.next,
        body-long c.args.j,
        c.requires.room,
      );
      entries = a.inverse;
    }

pub put_count_line-requires : goal.put_count_line-requires
put_count_line-requires c =
    omega (
      arith,
      c.put_row_line-a.ensures.next,
      c.put_row_line-b.ensures.next,
      c.put_inverse_line-c.ensures.next,
      body-long c.args.j,
      c.requires.room,
    )

pub returns : goal.returns
returns c =
    wrote-line _ _ c.put_row_line-a.ensures
    (wrote-line _ _ c.put_row_line-b.ensures
    (wrote-line _ _ c.put_inverse_line-c.ensures
    (wrote-last _ c.put_count_line.ensures)))
