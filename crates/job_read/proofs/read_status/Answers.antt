-- `job_read::read_status` meets its contract.
use mathlib.Core.Path.{refl, sym, ap, ◌∙◌}
use Rattle.std.proofs.lemmas.Result.{err_from_is_err_and}
use Rattle.faults.specs.Checked.{Status, status_of}
use Rattle.faults.specs.declared.Fault.{Fault}
use Rattle.jobs.specs.declared.Job.{Job}
use Rattle.reading.specs.Lines.{Answer}
use Rattle.lines.specs.Answered.{answered}
use Rattle.reading.proofs.Goes.{read-long}
use Rattle.job_form.specs.JobForm.{job_form_of, read_job}
use Rattle.line_read.proofs.Ways.{leads-on, read-bad, read-extra, read-done}
use Rattle.job_read.proofs.read_status.Goals as goal

abbrev status_in : Answer Fault Job → Status
status_in a = status_of (answered a)

pub returns-then-text-gt-TEXT : goal.returns-then-text-gt-TEXT
unfolding read_job
returns-then-text-gt-TEXT c =
    c.refused.ensures ∙ sym (ap status_in (read-long job_form_of c.args.text.now c.if-text-gt-TEXT.true))

pub returns-in_err-h : goal.returns-in_err-h
unfolding read_job
returns-in_err-h c =
    let p = err_from_is_err_and c.from_residual.result c.from_residual.ensures.1 in
    rw (p.1, p.2)
    (sym (ap status_in (read-bad job_form_of c.args.text.now c.if-text-gt-TEXT.false c.in_err-h.ensures.leads)))

pub returns-in_err-b : goal.returns-in_err-b
unfolding read_job
returns-in_err-b c =
    let boxed = leads-on _ _ c.in_ok-h.ensures.leads (c.in_err-b.ensures.leads _ refl) in
    let p = err_from_is_err_and c.from_residual-in_err-b.result c.from_residual-in_err-b.ensures.1 in
    rw (p.1, p.2)
    (sym (ap status_in (read-bad job_form_of c.args.text.now c.if-text-gt-TEXT.false boxed)))

pub returns-in_err-next : goal.returns-in_err-next
unfolding read_job
returns-in_err-next c =
    let boxed = leads-on _ _ c.in_ok-h.ensures.leads (c.in_ok-b.ensures.leads _ refl) in
    let solved = leads-on _ _ boxed (c.in_err-next.ensures.from.leads _ refl refl) in
    let p = err_from_is_err_and c.from_residual-in_err-next.result c.from_residual-in_err-next.ensures.1 in
    rw (p.1, p.2)
    (sym (ap status_in (read-bad job_form_of c.args.text.now c.if-text-gt-TEXT.false solved)))

pub returns-then-next-text : goal.returns-then-next-text
unfolding read_job
returns-then-next-text c =
    let boxed = leads-on _ _ c.in_ok-h.ensures.leads (c.in_ok-b.ensures.leads _ refl) in
    let solved = leads-on _ _ boxed (c.in_ok-next.ensures.from.leads _ refl refl) in
    rw (c.refused-then-next-text.ensures, c.job_line_number.ensures)
    (sym (ap status_in
    (read-extra job_form_of c.args.text.now c.if-text-gt-TEXT.false solved refl c.if-next-text.true)))

pub returns : goal.returns
unfolding read_job
returns c =
    let boxed = leads-on _ _ c.in_ok-h.ensures.leads (c.in_ok-b.ensures.leads _ refl) in
    let solved = leads-on _ _ boxed (c.in_ok-next.ensures.from.leads _ refl refl) in
    sym (ap status_in (read-done job_form_of c.args.text.now c.if-text-gt-TEXT.false solved refl c.if-next-text.false))
