use mathlib.Core.Path.{◌≡◌, ◌∙◌}
use borrow.Author.Rules.{rules}
use Rattle.std.specs.Prelude.{Err}
use Rattle.text.specs.Keys.{body_of}
use Rattle.text.specs.Words.{n_key}
use Rattle.checks.specs.Checks.{unknowns_check}
use Rattle.lines.specs.Lines.{digit_is, unknowns_of}
use Rattle.line_read.proofs.Checked.{misspelled-line, bad-line, good-line, digit-line}
use Rattle.line_read.proofs.counts.unknowns_line.Goals as goal

pub returns-in_err-digit : goal.returns-in_err-digit
unfolding unknowns_of
returns-in_err-digit c =
    let e : c.from_residual.result ≡ Err c.in_err-digit.field-0.0 = search rules in
    e ∙ misspelled-line (λ l. digit_is (body_of n_key l)) unknowns_check _ _
    (c.in_err-digit.ensures.value ∙ digit-line n_key _ _ c.digit_at.ensures)

pub returns-in_err-unknowns_check : goal.returns-in_err-unknowns_check
unfolding unknowns_of
returns-in_err-unknowns_check c =
    let e : c.from_residual-in_err-unknowns_check.result ≡ Err c.in_err-unknowns_check.field-0.0 = search rules in
    e ∙ bad-line (λ l. digit_is (body_of n_key l)) unknowns_check _ _
    (c.in_ok-digit.ensures.value ∙ digit-line n_key _ _ c.digit_at.ensures) c.in_err-unknowns_check.ensures

pub returns : goal.returns
unfolding unknowns_of
returns c =
    good-line (λ l. digit_is (body_of n_key l)) unknowns_check _ _
    (c.in_ok-digit.ensures.value ∙ digit-line n_key _ _ c.digit_at.ensures) c.in_ok-unknowns_check.ensures
