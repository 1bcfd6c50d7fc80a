use mathlib.Core.Path.{◌≡◌, refl, ap, ◌∙◌}
use borrow.Author.Rules.{rules}
use Rattle.std.specs.Prelude.{Err}
use Rattle.sizes.specs.Sizes.{n_max}
use Rattle.faults.specs.declared.Fault.{Fault}
use Rattle.checks.specs.CheckResult.{counted_check}
use Rattle.text.specs.Words.{lo_key}
use Rattle.reading.specs.NumberLines.{list_line}
use Rattle.lines.specs.Lines.{any_low_of}
use Rattle.line_read.proofs.Checked.{misspelled-line, bad-line, good-line}
use Rattle.list_read.proofs.Spelled.{list-line-yes, list-line-none}
use Rattle.list_read.proofs.numbers.any_low_line.Goals as goal

pub returns-in_err-list : goal.returns-in_err-list
unfolding any_low_of
returns-in_err-list c =
    let p = c.args in
    let n = c.in_err-list.ensures in
    let e : c.from_residual.result ≡ Err c.in_err-list.field-0.0 = search rules in
    let v = rw n.ok_part at n.value in
    let f : c.in_err-list.field-0.0 ≡ Fault.Spelling = cc in
    e ∙ ap Err f
    ∙ misspelled-line (list_line Fault.Spelling lo_key n_max) (λ x. counted_check x.count x.row) p.text.now p.from
    (list-line-none lo_key p.text.now p.from n_max (rw n.ok_part at c.list_at.ensures))

pub returns-in_err-counted_check : goal.returns-in_err-counted_check
unfolding any_low_of
returns-in_err-counted_check c =
    let p = c.args in
    let e : c.from_residual-in_err-counted_check.result ≡ Err c.in_err-counted_check.field-0.0 = search rules in
    e ∙ bad-line (list_line Fault.Spelling lo_key n_max) (λ x. counted_check x.count x.row) p.text.now p.from
    (list-line-yes lo_key p.text.now p.from n_max refl (rw c.in_ok-list.ensures.ok_part at c.list_at.ensures))
    c.in_err-counted_check.ensures

pub returns : goal.returns
unfolding any_low_of
returns c =
    let p = c.args in
    good-line (list_line Fault.Spelling lo_key n_max) (λ x. counted_check x.count x.row) p.text.now p.from
    (list-line-yes lo_key p.text.now p.from n_max refl (rw c.in_ok-list.ensures.ok_part at c.list_at.ensures))
    c.in_ok-counted_check.ensures
