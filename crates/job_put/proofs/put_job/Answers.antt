-- `job_put::put_job` meets its contract.
use native.Mathlib.Omega.{arith}
use Rattle.checks.proofs.AcceptedLaws.{check_done}
use Rattle.writing.proofs.Wrote.{wrote-append, wrote_as}
use Rattle.job_put.proofs.Parts.{job-parts, parts-short}
use Rattle.job_put.proofs.put_job.Goals as goal

pub put_head-a-requires : goal.put_head-a-requires
put_head-a-requires c = omega (arith, parts-short c.args.j c.requires)

pub put_pin-b-requires : goal.put_pin-b-requires
put_pin-b-requires c =
    let j = c.args.j in
    record {
      accepted = check_done j c.requires;
      room = omega (arith, c.put_head-a.ensures.next, parts-short j c.requires);
    }

pub put_body-c-requires : goal.put_body-c-requires
put_body-c-requires c =
    let j = c.args.j in
    record {
      accepted = check_done j c.requires;
      room = omega (arith, c.put_head-a.ensures.next, c.put_pin-b.ensures.next, parts-short j c.requires);
    }

pub put_system-requires : goal.put_system-requires
put_system-requires c =
    let j = c.args.j in
    record {
      accepted = check_done j c.requires;
      room = omega (
        arith,
        c.put_head-a.ensures.next,
        c.put_pin-b.ensures.next,
        c.put_body-c.ensures.next,
        parts-short j c.requires,
      );
    }

pub returns : goal.returns
returns c =
    wrote_as (job-parts c.args.j)
    (wrote-append c.put_head-a.ensures
    (wrote-append c.put_pin-b.ensures (wrote-append c.put_body-c.ensures c.put_system.ensures)))
