use mathlib.Core.Path.{◌≡◌, ◌∙◌}
use borrow.Author.Rules.{rules}
use Rattle.std.specs.Prelude.{Err}
use Rattle.sizes.specs.Sizes.{n_max}
use Rattle.text.specs.Words.{lo_key}
use Rattle.checks.specs.Checks.{low_check}
use Rattle.lines.specs.Lines.{numbers_of, low_of}
use Rattle.line_read.proofs.Checked.{misspelled-line, bad-line, good-line}
use Rattle.list_read.proofs.numbers.low_line.Goals as goal

pub returns-in_err-next : goal.returns-in_err-next
unfolding low_of
returns-in_err-next c =
    let p = c.args in
    let e : c.from_residual.result ≡ Err c.in_err-next.field-0.0 = search rules in
    e ∙ misspelled-line (numbers_of lo_key n_max p.n) (low_check p.n) p.text.now p.from c.in_err-next.ensures

pub returns-in_err-low_check : goal.returns-in_err-low_check
unfolding low_of
returns-in_err-low_check c =
    let p = c.args in
    let e : c.from_residual-in_err-low_check.result ≡ Err c.in_err-low_check.field-0.0 = search rules in
    e ∙ bad-line (numbers_of lo_key n_max p.n) (low_check p.n) p.text.now p.from c.in_ok-next.ensures
    c.in_err-low_check.ensures

pub returns : goal.returns
unfolding low_of
returns c =
    let p = c.args in
    good-line (numbers_of lo_key n_max p.n) (low_check p.n) p.text.now p.from c.in_ok-next.ensures
    c.in_ok-low_check.ensures
