-- `job_write::write_ready` meets its contract.
use native.Mathlib.Omega.{arith}
use native.Mathlib.Nat.{zero-add}
use mathlib.Core.Path.{◌∙◌}
use lib.ListN.{length}
use Rattle.faults.proofs.Answer.{no_room}
use Rattle.writing.proofs.Answer.{all-written}
use Rattle.job_form.specs.JobBytes.{job_bytes}
use Rattle.job_write.proofs.write_ready.Goals as goal

pub put_job-len-requires : goal.put_job-len-requires
put_job-len-requires c = c.requires

pub returns-then-out-len : goal.returns-then-out-len
returns-then-out-len c =
    let args = c.args in
    rw c.refused.ensures
    (no_room (job_bytes args.j) args.out.now (omega (arith, c.put_job-len.ensures.next, c.if-out-len.true)))

pub put_job-requires : goal.put_job-requires
put_job-requires c = c.requires

pub returns : goal.returns
returns c =
    let args = c.args in
    let len = c.put_job-len.ensures.next in
    rw (c.put_job.ensures.next ∙ zero-add (length (job_bytes args.j)))
    (all-written (job_bytes args.j) args.out.now (omega (arith, len, c.if-out-len.false)) c.put_job.ensures)
