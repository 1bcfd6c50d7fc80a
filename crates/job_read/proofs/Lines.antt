-- Each line of a job text before the system, by the answer of its function.
use Prim.Native.Nat.{ℕ, ◌≤◌}
use mathlib.Core.Path.{◌≡◌, refl, sym, ap}
use mathlib.Core.List.{List}
use lib.ListN.{length}
use lib.IntN.{ℤ}
use Rattle.std.specs.Prelude.{Ok, Err}
use Rattle.faults.specs.declared.Refusal.{Refusal}
use Rattle.faults.specs.Checked.{Checked, Found}
use Rattle.faults.specs.Checks.{on_line}
use Rattle.jobs.specs.declared.Head.{Head}
use Rattle.jobs.specs.declared.Job.{Job}
use Rattle.jobs.specs.declared.JobLine.{JobLine}
use Rattle.jobs.specs.declared.Kind.{Kind}
use Rattle.jobs.specs.declared.Row.{Row}
use Rattle.jobs.specs.Zero.{no_job}
use Rattle.jobs.specs.Lines.{after_n, job_number}
use Rattle.jobs.specs.Parts.{with_number, with_kind, with_unknowns, with_lo, with_hi, with_inverse, with_steps}
use Rattle.checks.specs.Checks.{unknowns_check}
use Rattle.checks.proofs.CheckLaws.{unknowns-fine}
use Rattle.text.specs.Words.{n_key}
use Rattle.text.specs.Keys.{body_of}
use Rattle.reading.specs.Results.{after}
use Rattle.reading.specs.Lines.{Next}
use Rattle.scan.specs.declared.At.{At}
use Rattle.lines.specs.Lines.{number_of, kind_of, digit_is, unknowns_of, low_of, high_of, inverse_of, steps_of}
use Rattle.line_read.specs.At.{said, onward, line_from}
use Rattle.line_read.specs.States.{Leads}
use Rattle.line_read.proofs.Ways.{line-leads, leads-stop, told-passed}
use Rattle.job_form.specs.JobForm.{job_form_of, job_says}
use Rattle.job_read.specs.Parts.{Whole, NamesFrom, HeadFrom}

module _ (t : List ℕ) (j : Job) (a : ℕ) (h : a ≤ length t) where
  pub number-leads : {r : Found (At ℕ)} {q : Checked (At ℕ)} → r ≡ line_from (said number_of t a) (onward t a)
      → q ≡ on_line r (job_number JobLine.Number j.head)
      → Leads job_form_of t a JobLine.Number j q (λ x. JobLine.Kind) (with_number j)
  unfolding job_says
  number-leads e =
      line-leads job_form_of t JobLine.Number j a h refl number_of
      (λ x. record { kind = JobLine.Kind; value = with_number j x }) refl e refl

  pub kind-leads : {r : Found (At Kind)} {q : Checked (At Kind)} → r ≡ line_from (said kind_of t a) (onward t a)
      → q ≡ on_line r (job_number JobLine.Kind j.head)
      → Leads job_form_of t a JobLine.Kind j q (λ x. JobLine.Unknowns) (with_kind j)
  unfolding job_says
  kind-leads e =
      line-leads job_form_of t JobLine.Kind j a h refl kind_of
      (λ x. record { kind = JobLine.Unknowns; value = with_kind j x }) refl e refl

  pub unknowns-leads : {r : Found (At ℕ)} {q : Checked (At ℕ)} → r ≡ line_from (said unknowns_of t a) (onward t a)
      → q ≡ on_line r (job_number JobLine.Unknowns j.head)
      → Leads job_form_of t a JobLine.Unknowns j q (λ x. after_n j.head.kind) (with_unknowns j)
  unfolding job_says
  unknowns-leads e =
      line-leads job_form_of t JobLine.Unknowns j a h refl unknowns_of
      (λ x. record { kind = after_n j.head.kind; value = with_unknowns j x }) refl e refl

  -- the lines of the box, where the head is known
  module _ (head : Head) (p : j.head ≡ head) where
    pub low-leads : {r : Found (At (List ℤ))} {q : Checked (At (List ℤ))}
        → r ≡ line_from (said (low_of head.n) t a) (onward t a)
        → q ≡ on_line r (job_number JobLine.Lo head)
        → Leads job_form_of t a JobLine.Lo j q (λ x. JobLine.Hi) (with_lo j)
    unfolding job_says
    low-leads e =
        line-leads job_form_of t JobLine.Lo j a h refl (low_of head.n)
        (λ x. record { kind = JobLine.Hi; value = with_lo j x })
        (ap {B = List ℕ → Found (Next JobLine Job)} (λ (k : Head). λ l.
        after (low_of k.n l) (λ x. record { kind = JobLine.Hi; value = with_lo j x })) p)
        e (ap (job_number JobLine.Lo) (sym p))

    pub high-leads : {r : Found (At (List ℤ))} {q : Checked (At (List ℤ))}
        → r ≡ line_from (said (high_of head.n j.ends.lo) t a) (onward t a)
        → q ≡ on_line r (job_number JobLine.Hi head)
        → Leads job_form_of t a JobLine.Hi j q (λ x. JobLine.Inv) (with_hi j)
    unfolding job_says
    high-leads e =
        line-leads job_form_of t JobLine.Hi j a h refl (high_of head.n j.ends.lo)
        (λ x. record { kind = JobLine.Inv; value = with_hi j x })
        (ap {B = List ℕ → Found (Next JobLine Job)} (λ (k : Head). λ l.
        after (high_of k.n j.ends.lo l) (λ x. record { kind = JobLine.Inv; value = with_hi j x })) p)
        e (ap (job_number JobLine.Hi) (sym p))

    pub inverse-leads : {r : Found (At (List Row))} {q : Checked (At (List Row))}
        → r ≡ line_from (said (inverse_of head.n) t a) (onward t a)
        → q ≡ on_line r (job_number JobLine.Inv head)
        → Leads job_form_of t a JobLine.Inv j q (λ x. JobLine.Steps) (with_inverse j)
    unfolding job_says
    inverse-leads e =
        line-leads job_form_of t JobLine.Inv j a h refl (inverse_of head.n)
        (λ x. record { kind = JobLine.Steps; value = with_inverse j x })
        (ap {B = List ℕ → Found (Next JobLine Job)} (λ (k : Head). λ l.
        after (inverse_of k.n l) (λ x. record { kind = JobLine.Steps; value = with_inverse j x })) p)
        e (ap (job_number JobLine.Inv) (sym p))

    pub steps-leads : {r : Found (At ℕ)} {q : Checked (At ℕ)} → r ≡ line_from (said steps_of t a) (onward t a)
        → q ≡ on_line r (job_number JobLine.Steps head)
        → Leads job_form_of t a JobLine.Steps j q (λ x. JobLine.System 0) (with_steps j)
    unfolding job_says
    steps-leads e =
        line-leads job_form_of t JobLine.Steps j a h refl steps_of
        (λ x. record { kind = JobLine.System 0; value = with_steps j x }) refl
        e (ap (job_number JobLine.Steps) (sym p))

-- "n: 1 to" 6
pub unknowns-whole : (t : List ℕ) (a m : ℕ) {r : Found (At ℕ)} {y : At ℕ} {head : Head}
    → r ≡ line_from (said unknowns_of t a) (onward t a) → Ok y ≡ on_line r m → head.n ≡ y.value → Whole head
unfolding unknowns_of
unknowns-whole t a m {y = y} e q n =
    let p = unknowns-fine y.value (told-passed (λ l. digit_is (body_of n_key l)) unknowns_check t a _ m e q) in
    record { some = rw n p.0; few = rw n p.1 }

-- a bad line of the head
module _ {t : List ℕ} {e : Refusal} {Y : Type 0} {kind : Y → JobLine} {value : Y → Job}
    (w : Leads job_form_of t 0 JobLine.Number no_job (Err e) kind value)
  where
    pub names-stop : NamesFrom t (Err e)
    names-stop = record { leads = leads-stop _ _ w; whole = tt; last = tt }

    pub head-stop : HeadFrom t (Err e)
    head-stop = record { leads = leads-stop _ _ w; whole = tt }
