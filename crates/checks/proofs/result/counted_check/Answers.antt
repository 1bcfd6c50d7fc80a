-- `result::counted_check` meets its contract: the ends are looked at where n is right.
use mathlib.Core.Path.{sym, ◌∙◌}
use Rattle.checks.proofs.CheckLaws.{count-fine}
use Rattle.checks.proofs.result.counted_check.Goals as goal

pub low_check-requires : goal.low_check-requires
low_check-requires c = (count-fine _ (sym c.count_check.ensures ∙ c.in_ok-count_check.was)).1
