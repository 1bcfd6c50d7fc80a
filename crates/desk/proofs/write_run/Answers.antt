-- `desk::write_run` meets its contract.
use Rattle.faults.specs.Checks.{and_then}
use Rattle.run.proofs.JobLaws.{answer-done}
use Rattle.runs.proofs.Results.{result-checked}
use Rattle.desk.specs.Desk.{run_status, run_text}
use Rattle.desk.proofs.write_run.Goals as goal

pub write_ready-requires : goal.write_ready-requires
write_ready-requires c = rw c.accepted.ensures (result-checked c.args.j c.requires)

pub returns : goal.returns
unfolding run_status run_text and_then
returns c =
    rw (
      ← answer-done c.args.j c.requires c.accepted.ensures,
      c.accepted.ensures,
      result-checked c.args.j c.requires,
    )
    (rw c.accepted.ensures at c.write_ready.ensures)
