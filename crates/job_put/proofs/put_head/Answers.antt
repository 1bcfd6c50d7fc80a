-- `job_put::put_head` meets its contract.
use native.Mathlib.Omega.{arith}
use Rattle.writing.proofs.Wrote.{wrote-line, wrote-last}
use Rattle.job_put.proofs.Parts.{head-long}
use Rattle.job_put.proofs.put_head.Goals as goal

pub put_kind_line-b-requires : goal.put_kind_line-b-requires
put_kind_line-b-requires c =
    omega (arith, c.put_count_line-a.ensures.next, head-long c.args.j, c.requires)

pub put_count_line-requires : goal.put_count_line-requires
put_count_line-requires c =
    omega (
      arith,
      c.put_count_line-a.ensures.next,
      c.put_kind_line-b.ensures.next,
      head-long c.args.j,
      c.requires,
    )

pub returns : goal.returns
returns c =
    wrote-line _ _ c.put_count_line-a.ensures
    (wrote-line _ _ c.put_kind_line-b.ensures
    (wrote-last _ c.put_count_line.ensures))
