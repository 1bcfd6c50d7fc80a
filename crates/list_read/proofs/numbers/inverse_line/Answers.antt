use mathlib.Core.Path.{◌≡◌, ◌∙◌}
use borrow.Author.Rules.{rules}
use Rattle.std.specs.Prelude.{Err}
use Prim.Native.Nat.{◌*◌}
use native.Mathlib.Omega.{arith}
use Rattle.text.specs.Lists.{places_max}
use Rattle.text.specs.Words.{inv_key}
use Rattle.checks.specs.Checks.{inverse_check}
use Rattle.lines.specs.Lines.{numbers_of, inverse_of}
use Rattle.lines.specs.Places.{rows_of}
use Rattle.lines.proofs.Squares.{square-fits}
use Rattle.reading.specs.Results.{after}
use Rattle.line_read.proofs.Checked.{misspelled-line, bad-line, good-line}
use Rattle.list_read.proofs.Spelled.{after-yes, after-no}
use Rattle.list_read.proofs.numbers.inverse_line.Goals as goal

pub overflow_mul-n : goal.overflow_mul-n
overflow_mul-n c = omega (arith, square-fits c.args.n c.requires.1)

pub returns-in_err-next : goal.returns-in_err-next
unfolding inverse_of
returns-in_err-next c =
    let p = c.args in
    let numbers = numbers_of inv_key places_max (p.n * p.n) in
    let e : c.from_residual.result ≡ Err c.in_err-next.field-0.0 = search rules in
    e ∙ misspelled-line (λ l. after (numbers l) (λ vals. rows_of vals p.n)) (inverse_check p.n) p.text.now p.from
    (after-no numbers (λ vals. rows_of vals p.n) p.text.now p.from _ c.in_err-next.ensures)

pub returns-in_err-inverse_check : goal.returns-in_err-inverse_check
unfolding inverse_of
returns-in_err-inverse_check c =
    let p = c.args in
    let numbers = numbers_of inv_key places_max (p.n * p.n) in
    let e : c.from_residual-in_err-inverse_check.result ≡ Err c.in_err-inverse_check.field-0.0 = search rules in
    e ∙ bad-line (λ l. after (numbers l) (λ vals. rows_of vals p.n)) (inverse_check p.n) p.text.now p.from
    (after-yes numbers (λ vals. rows_of vals p.n) p.text.now p.from _ c.in_ok-next.ensures)
    (rw c.rows_of-rows.ensures at c.in_err-inverse_check.ensures)

pub returns : goal.returns
unfolding inverse_of
returns c =
    let p = c.args in
    let numbers = numbers_of inv_key places_max (p.n * p.n) in
    rw c.rows_of-rows.ensures
    (good-line (λ l. after (numbers l) (λ vals. rows_of vals p.n)) (inverse_check p.n) p.text.now p.from
    (after-yes numbers (λ vals. rows_of vals p.n) p.text.now p.from _ c.in_ok-next.ensures)
    (rw c.rows_of-rows.ensures at c.in_ok-inverse_check.ensures))
