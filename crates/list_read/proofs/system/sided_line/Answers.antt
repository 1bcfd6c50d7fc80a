use mathlib.Core.Path.{◌≡◌, ◌∙◌}
use borrow.Author.Rules.{rules}
use Rattle.std.specs.Prelude.{Err}
use Prim.Native.Nat.{◌+◌}
use lib.ListN.{get_or}
use lib.IntN.{pos}
use mir.Syntax.{w64}
use mir.Facts.{to_z-of_z}
use Rattle.text.specs.Lists.{places_max}
use Rattle.text.specs.Words.{row_key}
use Rattle.checks.specs.Checks.{sided_check}
use Rattle.lines.specs.Lines.{numbers_of, sided_by, sided_of}
use Rattle.reading.specs.Results.{after}
use Rattle.line_read.proofs.Checked.{misspelled-line, bad-line, good-line}
use Rattle.list_read.proofs.Spelled.{after-yes, after-no}
use Rattle.list_read.proofs.system.sided_line.Goals as goal

pub returns-in_err-next : goal.returns-in_err-next
unfolding sided_of
returns-in_err-next c =
    let p = c.args in
    let numbers = numbers_of row_key places_max (p.n + 1) in
    let e : c.from_residual.result ≡ Err c.in_err-next.field-0.0 = search rules in
    e ∙ misspelled-line (λ l. after (numbers l) (λ vals. sided_by vals p.n)) (λ x. sided_check p.n x.row x.side)
    p.text.now p.from
    (after-no numbers (λ vals. sided_by vals p.n) p.text.now p.from _ c.in_err-next.ensures)

pub returns-in_err-sided_check : goal.returns-in_err-sided_check
unfolding sided_of
returns-in_err-sided_check c =
    let p = c.args in
    let numbers = numbers_of row_key places_max (p.n + 1) in
    let whole = to_z-of_z {w = w64} {z = get_or c.numbers.new.vals p.n (pos 0)} (search rules) in
    let e : c.from_residual-in_err-sided_check.result ≡ Err c.in_err-sided_check.field-0.0 = search rules in
    e ∙ bad-line (λ l. after (numbers l) (λ vals. sided_by vals p.n)) (λ x. sided_check p.n x.row x.side)
    p.text.now p.from
    (after-yes numbers (λ vals. sided_by vals p.n) p.text.now p.from _ c.in_ok-next.ensures)
    (rw (whole, c.cells_of-row.ensures) at c.in_err-sided_check.ensures)

pub returns : goal.returns
unfolding sided_of
returns c =
    let p = c.args in
    let numbers = numbers_of row_key places_max (p.n + 1) in
    let whole = to_z-of_z {w = w64} {z = get_or c.numbers.new.vals p.n (pos 0)} (search rules) in
    rw (whole, c.cells_of-row.ensures)
    (good-line (λ l. after (numbers l) (λ vals. sided_by vals p.n)) (λ x. sided_check p.n x.row x.side)
    p.text.now p.from
    (after-yes numbers (λ vals. sided_by vals p.n) p.text.now p.from _ c.in_ok-next.ensures)
    (rw (whole, c.cells_of-row.ensures) at c.in_ok-sided_check.ensures))
