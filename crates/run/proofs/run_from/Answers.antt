-- run_from: what the check found nothing in is what a step takes.
use mathlib.Core.Path.{◌∙◌}
use Rattle.checks.proofs.AcceptedLaws.{check_done}
use Rattle.step.proofs.Given.{job-in, step_in}
use Rattle.run.proofs.JobLaws.{run-made}
use Rattle.run.proofs.run_from.Goals as goal

pub equations-eqs-requires : goal.equations-eqs-requires
equations-eqs-requires c = job-in (check_done c.args.j c.requires.j_value)

pub matrix-c-requires : goal.matrix-c-requires
matrix-c-requires c = (check_done c.args.j c.requires.j_value).few

pub run_system-requires : goal.run_system-requires
run_system-requires c = record {
  step_in = step_in c.args.j c.requires.j_value c.equations-eqs.ensures
      c.matrix-c.ensures c.args.x c.requires.box_in;
  le_n = (check_done c.args.j c.requires.j_value).some;
}

pub returns : goal.returns
returns c =
    let made = run-made c.args.j c.requires.j_value c.equations-eqs.ensures c.matrix-c.ensures in
    c.run_system.ensures ∙ made c.args.x c.args.allowance
