-- `result_read::read_result` meets its contract.
use mathlib.Core.Path.{refl, sym, ap, ◌∙◌}
use native.Mathlib.Omega.{arith}
use Rattle.std.proofs.lemmas.Result.{err_from_is_err_and}
use Rattle.jobs.specs.Zero.{no_result}
use Rattle.reading.proofs.Goes.{read-long}
use Rattle.lines.specs.Answered.{answered}
use Rattle.lines.specs.Lines.{number_of, visit_of, verdict_of, steps_of, any_low_of}
use Rattle.result_form.specs.ResultForm.{result_form_of, read_result}
use Rattle.line_read.proofs.Ways.{leads-inside, leads-on, told-inside, read-bad, read-extra, read-done}
use Rattle.result_read.proofs.Lines.{number-leads, visit-leads, verdict-leads, steps-leads}
use Rattle.result_read.proofs.Lines.{low-leads, high-leads, low-few}
use Rattle.result_read.proofs.read_result.Goals as goal

pub returns-then-text-gt-TEXT : goal.returns-then-text-gt-TEXT
unfolding read_result
returns-then-text-gt-TEXT c =
    c.refused.ensures ∙ sym (ap answered (read-long result_form_of c.args.text.now c.if-text-gt-TEXT.true))

pub returns-in_err-number : goal.returns-in_err-number
unfolding read_result
returns-in_err-number c =
    let t = c.args.text.now in
    let p = err_from_is_err_and c.from_residual.result c.from_residual.ensures.1 in
    rw (p.1, p.2)
    (sym (ap answered
    (read-bad result_form_of t c.if-text-gt-TEXT.false
    (number-leads t no_result 0 (omega arith) c.number_line.ensures c.in_err-number.ensures))))

pub visit_line-requires : goal.visit_line-requires
visit_line-requires c =
    told-inside number_of c.args.text.now _ _ c.number_line.ensures c.in_ok-number.ensures

pub returns-in_err-visit : goal.returns-in_err-visit
unfolding read_result
returns-in_err-visit c =
    let t = c.args.text.now in
    let number = number-leads t no_result 0 (omega arith) c.number_line.ensures c.in_ok-number.ensures in
    let p = err_from_is_err_and c.from_residual-in_err-visit.result c.from_residual-in_err-visit.ensures.1 in
    rw (p.1, p.2)
    (sym (ap answered
    (read-bad result_form_of t c.if-text-gt-TEXT.false
    (leads-on _ _ number
    (visit-leads t _ _ (leads-inside _ _ number) c.visit_line.ensures c.in_err-visit.ensures)))))

pub verdict_line-requires : goal.verdict_line-requires
verdict_line-requires c =
    told-inside visit_of c.args.text.now _ _ c.visit_line.ensures c.in_ok-visit.ensures

pub returns-in_err-verdict : goal.returns-in_err-verdict
unfolding read_result
returns-in_err-verdict c =
    let t = c.args.text.now in
    let number = number-leads t no_result 0 (omega arith) c.number_line.ensures c.in_ok-number.ensures in
    let visit =
    leads-on _ _ number (visit-leads t _ _ (leads-inside _ _ number) c.visit_line.ensures c.in_ok-visit.ensures) in
    let p = err_from_is_err_and c.from_residual-in_err-verdict.result c.from_residual-in_err-verdict.ensures.1 in
    rw (p.1, p.2)
    (sym (ap answered
    (read-bad result_form_of t c.if-text-gt-TEXT.false
    (leads-on _ _ visit
    (verdict-leads t _ _ (leads-inside _ _ visit) c.verdict_line.ensures c.in_err-verdict.ensures)))))

pub steps_line-requires : goal.steps_line-requires
steps_line-requires c =
    told-inside verdict_of c.args.text.now _ _ c.verdict_line.ensures c.in_ok-verdict.ensures

pub returns-in_err-steps : goal.returns-in_err-steps
unfolding read_result
returns-in_err-steps c =
    let t = c.args.text.now in
    let number = number-leads t no_result 0 (omega arith) c.number_line.ensures c.in_ok-number.ensures in
    let visit =
    leads-on _ _ number (visit-leads t _ _ (leads-inside _ _ number) c.visit_line.ensures c.in_ok-visit.ensures) in
    let verdict =
    leads-on _ _ visit (verdict-leads t _ _ (leads-inside _ _ visit) c.verdict_line.ensures c.in_ok-verdict.ensures) in
    let p = err_from_is_err_and c.from_residual-in_err-steps.result c.from_residual-in_err-steps.ensures.1 in
    rw (p.1, p.2)
    (sym (ap answered
    (read-bad result_form_of t c.if-text-gt-TEXT.false
    (leads-on _ _ verdict
    (steps-leads t _ _ (leads-inside _ _ verdict) c.steps_line.ensures c.in_err-steps.ensures)))))

pub any_low_line-requires : goal.any_low_line-requires
any_low_line-requires c =
    told-inside steps_of c.args.text.now _ _ c.steps_line.ensures c.in_ok-steps.ensures

pub returns-in_err-low : goal.returns-in_err-low
unfolding read_result
returns-in_err-low c =
    let t = c.args.text.now in
    let number = number-leads t no_result 0 (omega arith) c.number_line.ensures c.in_ok-number.ensures in
    let visit =
    leads-on _ _ number (visit-leads t _ _ (leads-inside _ _ number) c.visit_line.ensures c.in_ok-visit.ensures) in
    let verdict =
    leads-on _ _ visit (verdict-leads t _ _ (leads-inside _ _ visit) c.verdict_line.ensures c.in_ok-verdict.ensures) in
    let steps =
    leads-on _ _ verdict (steps-leads t _ _ (leads-inside _ _ verdict) c.steps_line.ensures c.in_ok-steps.ensures) in
    let p = err_from_is_err_and c.from_residual-in_err-low.result c.from_residual-in_err-low.ensures.1 in
    rw (p.1, p.2)
    (sym (ap answered
    (read-bad result_form_of t c.if-text-gt-TEXT.false
    (leads-on _ _ steps
    (low-leads t _ _ (leads-inside _ _ steps) c.any_low_line.ensures c.in_err-low.ensures)))))

pub high_line-requires : goal.high_line-requires
high_line-requires c = (
  told-inside any_low_of c.args.text.now _ _ c.any_low_line.ensures c.in_ok-low.ensures,
  low-few c.args.text.now _ _ c.any_low_line.ensures c.in_ok-low.ensures,
)

pub returns-in_err-high : goal.returns-in_err-high
unfolding read_result
returns-in_err-high c =
    let t = c.args.text.now in
    let number = number-leads t no_result 0 (omega arith) c.number_line.ensures c.in_ok-number.ensures in
    let visit =
    leads-on _ _ number (visit-leads t _ _ (leads-inside _ _ number) c.visit_line.ensures c.in_ok-visit.ensures) in
    let verdict =
    leads-on _ _ visit (verdict-leads t _ _ (leads-inside _ _ visit) c.verdict_line.ensures c.in_ok-verdict.ensures) in
    let steps =
    leads-on _ _ verdict (steps-leads t _ _ (leads-inside _ _ verdict) c.steps_line.ensures c.in_ok-steps.ensures) in
    let low =
    leads-on _ _ steps (low-leads t _ _ (leads-inside _ _ steps) c.any_low_line.ensures c.in_ok-low.ensures) in
    let p = err_from_is_err_and c.from_residual-in_err-high.result c.from_residual-in_err-high.ensures.1 in
    rw (p.1, p.2)
    (sym (ap answered
    (read-bad result_form_of t c.if-text-gt-TEXT.false
    (leads-on _ _ low
    (high-leads t _ _ (leads-inside _ _ low) c.high_line.ensures c.in_err-high.ensures)))))

pub returns-then-high-text : goal.returns-then-high-text
unfolding read_result
returns-then-high-text c =
    let t = c.args.text.now in
    let number = number-leads t no_result 0 (omega arith) c.number_line.ensures c.in_ok-number.ensures in
    let visit =
    leads-on _ _ number (visit-leads t _ _ (leads-inside _ _ number) c.visit_line.ensures c.in_ok-visit.ensures) in
    let verdict =
    leads-on _ _ visit (verdict-leads t _ _ (leads-inside _ _ visit) c.verdict_line.ensures c.in_ok-verdict.ensures) in
    let steps =
    leads-on _ _ verdict (steps-leads t _ _ (leads-inside _ _ verdict) c.steps_line.ensures c.in_ok-steps.ensures) in
    let low =
    leads-on _ _ steps (low-leads t _ _ (leads-inside _ _ steps) c.any_low_line.ensures c.in_ok-low.ensures) in
    let high =
    leads-on _ _ low (high-leads t _ _ (leads-inside _ _ low) c.high_line.ensures c.in_ok-high.ensures) in
    rw (c.refused-then-high-text.ensures, c.result_line_number.ensures)
    (sym (ap answered (read-extra result_form_of t c.if-text-gt-TEXT.false high refl c.if-high-text.true)))

pub returns : goal.returns
unfolding read_result
returns c =
    let t = c.args.text.now in
    let number = number-leads t no_result 0 (omega arith) c.number_line.ensures c.in_ok-number.ensures in
    let visit =
    leads-on _ _ number (visit-leads t _ _ (leads-inside _ _ number) c.visit_line.ensures c.in_ok-visit.ensures) in
    let verdict =
    leads-on _ _ visit (verdict-leads t _ _ (leads-inside _ _ visit) c.verdict_line.ensures c.in_ok-verdict.ensures) in
    let steps =
    leads-on _ _ verdict (steps-leads t _ _ (leads-inside _ _ verdict) c.steps_line.ensures c.in_ok-steps.ensures) in
    let low =
    leads-on _ _ steps (low-leads t _ _ (leads-inside _ _ steps) c.any_low_line.ensures c.in_ok-low.ensures) in
    let high =
    leads-on _ _ low (high-leads t _ _ (leads-inside _ _ low) c.high_line.ensures c.in_ok-high.ensures) in
    sym (ap answered (read-done result_form_of t c.if-text-gt-TEXT.false high refl c.if-high-text.false))
