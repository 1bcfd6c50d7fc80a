-- run_system: the count that is handed on is n itself.
use Rattle.run.proofs.run_system.Goals as goal

pub bounded-few-requires : goal.bounded-few-requires
bounded-few-requires c = (c.requires.le_n, c.requires.step_in.box.places)

pub run_steps-requires : goal.run_steps-requires
run_steps-requires c = rw c.bounded-few.ensures c.requires.step_in

pub returns : goal.returns
returns c = rw c.bounded-few.ensures at c.run_steps.ensures
