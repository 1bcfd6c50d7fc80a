-- `job_put::system::put_system` meets its contract.
use native.Mathlib.Omega.{arith}
use mathlib.Core.Path.{sym}
use Rattle.writing.proofs.Wrote.{wrote-append, wrote_none, wrote_as}
use Rattle.job_put.proofs.Parts.{system-none, system-more, system-grows}
use Rattle.job_put.proofs.system.put_system.Goals as goal

pub loop-i-init : goal.loop-i-init
loop-i-init c = wrote_as (sym (system-none c.args.j)) (wrote_none _ _)

pub put_system_line-p-requires : goal.put_system_line-p-requires
put_system_line-p-requires c =
    let j = c.args.j in
    let l = c.loop-i in
    let grows = system-grows j l.i j.head.n (omega (arith, c.loop-i-test.true)) in
    record {
      accepted = c.requires.accepted;
      live = c.loop-i-test.true;
      room = omega (arith, l.invariant.next, grows, c.requires.room);
    }

pub loop-i-preserved : goal.loop-i-preserved
loop-i-preserved c =
    let l = c.loop-i in
    wrote_as (system-more c.args.j l.i) (wrote-append l.invariant c.put_system_line-p.ensures)
