-- `result::check_result` meets its contract. Where no line before `hi` is bad n is at most its limit.
use mathlib.Core.Path.{sym, ◌∙◌}
use Rattle.faults.proofs.Laws.{fine-first, fine-line, line_same}
use Rattle.checks.specs.CheckResult.{counted_check}
use Rattle.checks.proofs.CheckLaws.{count-fine}
use Rattle.checks.proofs.result.check_result.Goals as goal

pub high_check-requires : goal.high_check-requires
unfolding counted_check
high_check-requires c =
    let line = sym (line_same _ c.counted_check.ensures c.numbered-4.ensures) ∙ c.in_ok-numbered-4.was in
    (count-fine _ (fine-first _ _ (fine-line _ _ line))).1
