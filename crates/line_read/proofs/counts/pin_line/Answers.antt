use mathlib.Core.Path.{◌≡◌, ◌∙◌}
use borrow.Author.Rules.{rules}
use Rattle.std.specs.Prelude.{Err}
use Rattle.faults.specs.declared.Fault.{Fault}
use Rattle.text.specs.Words.{pin_key}
use Rattle.reading.specs.NumberLines.{count_line}
use Rattle.lines.specs.Lines.{written_pin, pin_of}
use Rattle.line_read.proofs.Checked.{misspelled-line, bad-line, good-line}
use Rattle.line_read.proofs.counts.pin_line.Goals as goal

pub returns-in_err-count : goal.returns-in_err-count
unfolding pin_of
returns-in_err-count c =
    let e : c.from_residual.result ≡ Err c.in_err-count.field-0.0 = search rules in
    e ∙ misspelled-line (count_line Fault.Spelling Fault.Pin pin_key c.args.n) (written_pin c.args.n) _ _
    c.in_err-count.ensures

pub returns-in_err-written_pin : goal.returns-in_err-written_pin
unfolding pin_of
returns-in_err-written_pin c =
    let e : c.from_residual-in_err-written_pin.result ≡ Err c.in_err-written_pin.field-0.0 = search rules in
    e ∙ bad-line (count_line Fault.Spelling Fault.Pin pin_key c.args.n) (written_pin c.args.n) _ _
    c.in_ok-count.ensures c.in_err-written_pin.ensures

pub returns : goal.returns
unfolding pin_of
returns c =
    good-line (count_line Fault.Spelling Fault.Pin pin_key c.args.n) (written_pin c.args.n) _ _
    c.in_ok-count.ensures c.in_ok-written_pin.ensures
