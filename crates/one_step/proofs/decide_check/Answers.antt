-- decide_check: the boxes are looked at where n is right.
use mathlib.Core.Path.{sym, ◌∙◌}
use Rattle.checks.proofs.CheckLaws.{unknowns-fine}
use Rattle.one_step.proofs.decide_check.Goals as goal

pub ends_check-requires : goal.ends_check-requires
ends_check-requires c = (unknowns-fine _ (sym c.unknowns_check.ensures ∙ c.in_ok-unknowns_check.was)).1

pub ends_check-requires-2 : goal.ends_check-requires-2
ends_check-requires-2 c = (unknowns-fine _ (sym c.unknowns_check.ensures ∙ c.in_ok-unknowns_check.was)).1
