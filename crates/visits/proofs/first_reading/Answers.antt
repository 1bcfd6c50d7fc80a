-- `visits::first_reading` meets its contract.
use mathlib.Core.Path.{ap}
use Rattle.jobs.specs.declared.Result.{Result}
use Rattle.checks.proofs.AcceptedLaws.{check_done}
use Rattle.result_form.specs.ResultForm.{with_visit}
use Rattle.visits.proofs.first_reading.Goals as goal

pub box_of-requires : goal.box_of-requires
box_of-requires c = (check_done c.args.j c.requires).few

pub result_of-requires : goal.result_of-requires
result_of-requires c = (check_done c.args.j c.requires).few

pub returns : goal.returns
returns c =
    ap (λ (r : Result). with_visit r c.args.visit) (rw c.box_of.ensures at c.result_of.ensures)
