-- The line after an eigenpair's n, by its key: its pin, or no line of its own.
use Prim.Native.Nat.{ℕ, ◌≤◌}
use mathlib.Core.Path.{◌≡◌, refl, ap, subst, ◌∙◌}
use mathlib.Core.List.{List}
use mathlib.Core.Logic.{◌⊎◌, inl, inr}
use mathlib.Core.Bool.{true, false, not}
use lib.ListN.{length}
use borrow.Author.Tests.{eq-eqb}
use Rattle.faults.specs.declared.Fault.{Fault}
use Rattle.faults.specs.Checked.{Found, Checked}
use Rattle.faults.specs.Checks.{on_line}
use Rattle.text.specs.Keys.{starts_with}
use Rattle.text.specs.Words.{pin_key}
use Rattle.scan.specs.Lines.{line_of}
use Rattle.jobs.specs.declared.Kind.{Kind}
use Rattle.jobs.specs.declared.Head.{Head}
use Rattle.jobs.specs.declared.Job.{Job}
use Rattle.jobs.specs.declared.JobLine.{JobLine}
use Rattle.jobs.specs.Lines.{pin_stands, pin_lines, after_n, job_number}
use Rattle.jobs.specs.Parts.{last_pin, with_head, with_pin}
use Rattle.jobs.specs.Zero.{no_job}
use Rattle.reading.specs.Results.{after}
use Rattle.reading.specs.Lines.{Next}
use Rattle.reading.specs.Places.{line_at}
use Rattle.reading.proofs.Ends.{line_after}
use Rattle.reading.proofs.Goes.{goes-as}
use Rattle.lines.specs.Lines.{pin_of}
use Rattle.line_read.specs.At.{said, onward, line_from}
use Rattle.line_read.specs.States.{Leads}
use Rattle.line_read.proofs.Ways.{line-leads-here, leads-on}
use Rattle.job_form.specs.JobForm.{job_form_of, job_says}
use Rattle.scan.specs.declared.At.{At}
use Rattle.std.proofs.lemmas.Result.{IfOk-weaker}
use Rattle.job_read.specs.Parts.{Unpinned, NamesFrom, PinFrom, HeadFrom}
use Rattle.std.specs.Prelude.{Ok}

-- "pin equal to n is never written": the line after n is lo, and has its number
last-number : (h : Head) → Unpinned h → job_number JobLine.Pin h ≡ job_number JobLine.Lo h
unfolding pin_lines
last-number h u =
    let stands : pin_stands h.kind h.n h.pin ≡ false =
    rw u.kind (ap not (eq-eqb h.pin h.n u.last)) in
    rw stands

module _ (t : List ℕ) (j : Job) (a : ℕ) (inside : a ≤ length t) where
  abbrev put : ℕ → Next JobLine Job
  put pin = record { kind = JobLine.Lo; value = with_pin j pin }

  said-pin : starts_with pin_key (line_of t a) ≡ true
      → said (job_says JobLine.Pin j) t a ≡ said (λ l. after (pin_of j.head.n l) put) t a
  unfolding job_says line_at
  said-pin key = rw key

  said-low : starts_with pin_key (line_of t a) ≡ false → said (job_says JobLine.Pin j) t a
      ≡ said (job_says JobLine.Lo j) t a
  unfolding job_says line_at
  said-low key = rw key

  abbrev pub with_its : Head → ℕ → Head
  with_its head pin = record { number = head.number; kind = head.kind; n = head.n; pin = pin }

  pub pin-leads : starts_with pin_key (line_of t a) ≡ true → (head : Head) → j.head ≡ head
      → {r : Found (At ℕ)} {q : Checked (At ℕ)} → r ≡ line_from (said (pin_of head.n) t a) (onward t a)
      → q ≡ on_line r (job_number JobLine.Pin head)
      → Leads job_form_of t a JobLine.Pin j q (λ x. JobLine.Lo) (λ x. with_head j (with_its head x))
  pin-leads key head p {q = q} e is =
      subst (λ (h : Head). Leads job_form_of t a JobLine.Pin j q (λ x. JobLine.Lo) (λ x. with_head j (with_its h x))) p
      (line-leads-here job_form_of t JobLine.Pin j a inside refl (pin_of j.head.n) put
      (said-pin key ∙ line_after Fault.Spelling (pin_of j.head.n) put t a)
      (rw p e) refl is)

  -- no line of its own
  pub last-leads : starts_with pin_key (line_of t a) ≡ false → Unpinned j.head
      → Leads job_form_of t a JobLine.Pin j (Ok (record { value = j.head; next = a })) (λ h. JobLine.Lo) (with_head j)
  last-leads key u = record {
    goes = goes-as job_form_of t JobLine.Pin JobLine.Lo j a inside refl refl (last-number j.head u) (said-low key);
  }

-- ---- the head, with its pin

-- a job that has no pin
pub no-pin : {k : Kind} → (k ≡ Kind.Poly) ⊎ (k ≡ Kind.Linear) → after_n k ≡ JobLine.Lo
no-pin (inl e) = ap after_n e
no-pin (inr e) = ap after_n e

module _ {t : List ℕ} {y : At Head} (names : NamesFrom t (Ok y)) where
  pub plain-head : after_n y.value.kind ≡ JobLine.Lo → HeadFrom t (Ok y)
  plain-head e = record { leads = record { goes = rw e at names.leads.goes }; whole = names.whole }

  module _ (eigen : y.value.kind ≡ Kind.Eigen) where
    pub unpinned : Unpinned y.value
    unpinned = record { kind = eigen; last = names.last ∙ ap (λ (k : Kind). last_pin k y.value.n) eigen }

    fourth : Leads job_form_of t 0 JobLine.Number no_job (Ok y) (λ h. JobLine.Pin) (with_head no_job)
    fourth = record { goes = rw (ap after_n eigen) at names.leads.goes }

    pub pinned-head : {r : Checked (At Head)} → PinFrom t y.next y.value r → HeadFrom t r
    pinned-head {r} p = record {
      leads = leads-on _ _ fourth (p.leads (with_head no_job y.value) refl);
      whole = IfOk-weaker r _ _
          (λ z same. record { some = rw same names.whole.some; few = rw same names.whole.few }) p.same;
    }
