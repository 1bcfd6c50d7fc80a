-- ran: the box that the run returns is in range.
use mathlib.Core.Path.{ap}
use Rattle.run.specs.declared.Outcome.{Outcome}
use Rattle.runs.proofs.Left.{step_left}
use Rattle.halving.specs.Parts.{ran_as}
use Rattle.halving.proofs.ran.Goals as goal

pub part_of-part-requires : goal.part_of-part-requires
part_of-part-requires c = record {
  box_in = rw c.run_system-verdict.ensures
      (step_left c.args.x c.requires.step_in c.args.job.now.steps);
  le_n = c.requires.le_n;
}

pub returns : goal.returns
returns c =
    rw c.part_of-part.ensures
    (ap (λ (o : Outcome). ran_as o c.args.job.now.n c.args.depth) c.run_system-verdict.ensures)
