use mathlib.Core.Path.{◌≡◌, ◌∙◌}
use borrow.Author.Rules.{rules}
use Rattle.std.specs.Prelude.{Err, Some, None}
use Rattle.faults.specs.declared.Fault.{Fault}
use Rattle.text.specs.declared.Uncounted.{Uncounted}
use Rattle.reading.specs.NumberLines.{counted}
use Rattle.line_read.proofs.Single.{no-number, one-number}
use Rattle.line_read.proofs.counts.count_line.Goals as goal

pub returns-in_err-count : goal.returns-in_err-count
returns-in_err-count c =
    let p = c.args in
    let none : c.count_at.result ≡ None = search rules in
    let e : c.from_residual.result ≡ Err Fault.Spelling = search rules in
    e ∙ no-number p.out p.key.now p.most p.text.now p.from c.count_at.ensures none

pub returns-in-Ok : goal.returns-in-Ok
unfolding counted
returns-in-Ok c =
    let p = c.args in
    let some : c.count_at.result ≡ Some c.in_ok-count.count = search rules in
    one-number p.out p.key.now p.most p.text.now p.from c.count_at.ensures some c.in-Ok.is

pub returns-in-Err-Bad : goal.returns-in-Err-Bad
unfolding counted
returns-in-Err-Bad c =
    let p = c.args in
    let some : c.count_at.result ≡ Some c.in_ok-count.count = search rules in
    let e : c.in_ok-count.count.value ≡ Err Uncounted.Bad = search rules in
    one-number p.out p.key.now p.most p.text.now p.from c.count_at.ensures some e

pub returns-in-Err-Out : goal.returns-in-Err-Out
unfolding counted
returns-in-Err-Out c =
    let p = c.args in
    let some : c.count_at.result ≡ Some c.in_ok-count.count = search rules in
    let e : c.in_ok-count.count.value ≡ Err Uncounted.Out = search rules in
    one-number p.out p.key.now p.most p.text.now p.from c.count_at.ensures some e
