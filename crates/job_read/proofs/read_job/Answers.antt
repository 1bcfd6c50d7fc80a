-- `job_read::read_job` meets its contract.
use mathlib.Core.Path.{refl, sym, ap, ◌∙◌}
use Rattle.std.proofs.lemmas.Result.{err_from_is_err_and}
use Rattle.lines.specs.Answered.{answered}
use Rattle.reading.proofs.Goes.{read-long}
use Rattle.job_form.specs.JobForm.{job_form_of, read_job}
use Rattle.line_read.proofs.Ways.{leads-on, read-bad, read-extra, read-done}
use Rattle.job_read.proofs.read_job.Goals as goal

pub returns-then-text-gt-TEXT : goal.returns-then-text-gt-TEXT
unfolding read_job
returns-then-text-gt-TEXT c =
    c.refused.ensures ∙ sym (ap answered (read-long job_form_of c.args.text.now c.if-text-gt-TEXT.true))

pub returns-in_err-h : goal.returns-in_err-h
unfolding read_job
returns-in_err-h c =
    let p = err_from_is_err_and c.from_residual.result c.from_residual.ensures.1 in
    rw (p.1, p.2)
    (sym (ap answered (read-bad job_form_of c.args.text.now c.if-text-gt-TEXT.false c.in_err-h.ensures.leads)))

pub returns-in_err-b : goal.returns-in_err-b
unfolding read_job
returns-in_err-b c =
    let boxed = leads-on _ _ c.in_ok-h.ensures.leads (c.in_err-b.ensures.leads _ refl) in
    let p = err_from_is_err_and c.from_residual-in_err-b.result c.from_residual-in_err-b.ensures.1 in
    rw (p.1, p.2)
    (sym (ap answered (read-bad job_form_of c.args.text.now c.if-text-gt-TEXT.false boxed)))

pub returns-in_err-s : goal.returns-in_err-s
unfolding read_job
returns-in_err-s c =
    let boxed = leads-on _ _ c.in_ok-h.ensures.leads (c.in_ok-b.ensures.leads _ refl) in
    let solved = leads-on _ _ boxed (c.in_err-s.ensures.leads _ refl refl) in
    let p = err_from_is_err_and c.from_residual-in_err-s.result c.from_residual-in_err-s.ensures.1 in
    rw (p.1, p.2)
    (sym (ap answered (read-bad job_form_of c.args.text.now c.if-text-gt-TEXT.false solved)))

pub returns-then-s-text : goal.returns-then-s-text
unfolding read_job
returns-then-s-text c =
    let boxed = leads-on _ _ c.in_ok-h.ensures.leads (c.in_ok-b.ensures.leads _ refl) in
    let solved = leads-on _ _ boxed (c.in_ok-s.ensures.leads _ refl refl) in
    rw (c.refused-then-s-text.ensures, c.job_line_number.ensures)
    (sym (ap answered (read-extra job_form_of c.args.text.now c.if-text-gt-TEXT.false solved refl c.if-s-text.true)))

pub returns : goal.returns
unfolding read_job
returns c =
    let boxed = leads-on _ _ c.in_ok-h.ensures.leads (c.in_ok-b.ensures.leads _ refl) in
    let solved = leads-on _ _ boxed (c.in_ok-s.ensures.leads _ refl refl) in
    sym (ap answered (read-done job_form_of c.args.text.now c.if-text-gt-TEXT.false solved refl c.if-s-text.false))
