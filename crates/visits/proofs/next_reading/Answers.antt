-- `visits::next_reading` meets its contract.
use mathlib.Core.Path.{sym, ap, ◌∙◌}
use Rattle.checks.proofs.AcceptedLaws.{check_done}
use Rattle.visits.specs.Visits.{added, next_reading}
use Rattle.visits.proofs.Readings.{few, box-right, steps-fit}
use Rattle.visits.proofs.next_reading.Goals as goal

pub returns-then-is_finished : goal.returns-then-is_finished
unfolding next_reading
returns-then-is_finished c = rw (sym c.is_finished.ensures ∙ c.if-is_finished.true)

pub box_of-x-requires : goal.box_of-x-requires
box_of-x-requires c =
    (check_done c.args.j c.requires.job).few

pub run_from-o-requires : goal.run_from-o-requires
run_from-o-requires c = record {
  j_value = c.requires.job;
  box_in = rw c.box_of-x.ensures (box-right c.args.j c.args.r c.requires);
}

pub add-requires : goal.add-requires
add-requires c = (
  few c.args.j c.args.r c.requires,
  rw (c.run_from-o.ensures, c.box_of-x.ensures) (steps-fit c.args.j c.args.r c.requires),
)

pub returns : goal.returns
unfolding next_reading
returns c =
    rw (sym c.is_finished.ensures ∙ c.if-is_finished.false)
    (c.add.ensures
    ∙ ap (added c.args.r)
    (rw c.box_of-x.ensures at c.run_from-o.ensures))
