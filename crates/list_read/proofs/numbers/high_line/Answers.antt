use mathlib.Core.Path.{◌≡◌, ◌∙◌}
use borrow.Author.Rules.{rules}
use Rattle.std.specs.Prelude.{Err}
use Rattle.sizes.specs.Sizes.{n_max}
use Rattle.text.specs.Words.{hi_key}
use Rattle.checks.specs.Checks.{high_check}
use Rattle.lines.specs.Lines.{numbers_of, high_of}
use Rattle.line_read.proofs.Checked.{misspelled-line, bad-line, good-line}
use Rattle.list_read.proofs.numbers.high_line.Goals as goal

pub returns-in_err-next : goal.returns-in_err-next
unfolding high_of
returns-in_err-next c =
    let p = c.args in
    let e : c.from_residual.result ≡ Err c.in_err-next.field-0.0 = search rules in
    e ∙ misspelled-line (numbers_of hi_key n_max p.n) (high_check p.n p.lo) p.text.now p.from c.in_err-next.ensures

pub returns-in_err-high_check : goal.returns-in_err-high_check
unfolding high_of
returns-in_err-high_check c =
    let p = c.args in
    let e : c.from_residual-in_err-high_check.result ≡ Err c.in_err-high_check.field-0.0 = search rules in
    e ∙ bad-line (numbers_of hi_key n_max p.n) (high_check p.n p.lo) p.text.now p.from c.in_ok-next.ensures
    c.in_err-high_check.ensures

pub returns : goal.returns
unfolding high_of
returns c =
    let p = c.args in
    good-line (numbers_of hi_key n_max p.n) (high_check p.n p.lo) p.text.now p.from c.in_ok-next.ensures
    c.in_ok-high_check.ensures
