-- image_status: the box is looked at where the job is right.
use mathlib.Core.Path.{sym, ◌∙◌}
use Rattle.checks.proofs.AcceptedLaws.{check_done}
use Rattle.one_step.proofs.image_status.Goals as goal

pub ends_check-requires : goal.ends_check-requires
ends_check-requires c = (check_done c.args.j (sym c.check_job.ensures ∙ c.in_ok-check_job.was)).few
