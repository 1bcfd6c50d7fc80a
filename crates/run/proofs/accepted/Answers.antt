-- accepted: the job's own box is in range.
use mathlib.Core.Path.{ap, ◌∙◌}
use Rattle.checks.proofs.AcceptedLaws.{check_done}
use Rattle.step.proofs.Given.{start-in}
use Rattle.run.specs.Job.{outcome_of, result_of}
use Rattle.run.proofs.accepted.Goals as goal

pub box_of-x-requires : goal.box_of-x-requires
box_of-x-requires c = (check_done c.args.j c.requires).few

pub run_from-requires : goal.run_from-requires
run_from-requires c = record {
  j_value = c.requires;
  box_in = rw c.box_of-x.ensures (start-in (check_done c.args.j c.requires));
}

pub result_of-requires : goal.result_of-requires
result_of-requires c = (check_done c.args.j c.requires).few

pub returns : goal.returns
unfolding outcome_of
returns c =
    let j = c.args.j in
    c.result_of.ensures ∙ ap (result_of j) (rw c.box_of-x.ensures at c.run_from.ensures)
