-- decide: boxes in which nothing was found are decided.
use mathlib.Core.Path.{sym, ◌∙◌}
use Rattle.faults.proofs.Laws.{fine-first, fine-line}
use Rattle.checks.proofs.CheckLaws.{unknowns-fine}
use Rattle.one_step.specs.OneStep.{decide_check}
use Rattle.one_step.proofs.decide.Goals as goal

pub moved-requires : goal.moved-requires
unfolding decide_check
moved-requires c =
    let fine = fine-line _ _ (sym c.on_line.ensures ∙ c.in_ok-on_line.was) in
    (unknowns-fine _ (fine-first _ _ (sym c.decide_check.ensures ∙ fine))).1
