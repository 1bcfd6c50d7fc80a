use mathlib.Core.Path.{◌≡◌, sym, ap, ◌∙◌}
use mathlib.Core.Bool.{Bool}
use borrow.Author.Rules.{rules}
use Rattle.std.specs.Prelude.{Err}
use Rattle.faults.specs.declared.Fault.{Fault}
use Rattle.faults.specs.Checks.{bad_unless}
use Rattle.checks.specs.Checks.{equation_check}
use Rattle.term_text.specs.Terms.{read_equation}
use Rattle.line_read.proofs.Checked.{misspelled-line, bad-line, good-line}
use Rattle.list_read.proofs.Spelled.{terms_is, terms-none, terms-far, terms-near, shape-alone, equation-is}
use Rattle.list_read.proofs.system.equation_line.Goals as goal

pub returns-in_default : goal.returns-in_default
returns-in_default c =
    let p = c.args in
    rw (equation-is p.n) at
    (misspelled-line (λ l. terms_is (read_equation p.n l)) (equation_check p.n) p.text.now p.from
    (terms-none p.n p.text.now p.from (rw c.bounded-few.ensures at c.in_default.ensures)))

pub returns-then-terms : goal.returns-then-terms
returns-then-terms c =
    let p = c.args in
    rw (equation-is p.n) at
    (misspelled-line (λ l. terms_is (read_equation p.n l)) (equation_check p.n) p.text.now p.from
    (terms-far p.n p.text.now p.from (rw c.bounded-few.ensures at c.in-Ok.ensures) c.if-terms.true))

pub returns-in_err-bad_unless : goal.returns-in_err-bad_unless
returns-in_err-bad_unless c =
    let p = c.args in
    let few = c.bounded-few.ensures in
    let t = rw few at c.in-Ok.ensures in
    let good = rw few at c.good_terms.ensures in
    let e : c.from_residual.result ≡ Err c.in_err-bad_unless.field-0.0 = search rules in
    e ∙ rw (equation-is p.n) at
    (bad-line (λ l. terms_is (read_equation p.n l)) (equation_check p.n) p.text.now p.from
    (terms-near p.n p.text.now p.from t c.if-terms.false)
    (c.in_err-bad_unless.ensures ∙ ap (λ (b : Bool). bad_unless b Fault.Terms) good
    ∙ sym (shape-alone p.n p.text.now p.from t c.if-terms.false)))

pub returns : goal.returns
returns c =
    let p = c.args in
    let few = c.bounded-few.ensures in
    let t = rw few at c.in-Ok.ensures in
    let good = rw few at c.good_terms.ensures in
    rw (equation-is p.n) at
    (good-line (λ l. terms_is (read_equation p.n l)) (equation_check p.n) p.text.now p.from
    (terms-near p.n p.text.now p.from t c.if-terms.false)
    (c.in_ok-bad_unless.ensures ∙ ap (λ (b : Bool). bad_unless b Fault.Terms) good
    ∙ sym (shape-alone p.n p.text.now p.from t c.if-terms.false)))
