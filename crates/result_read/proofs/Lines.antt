-- Each line of a result text, by the answer of its function.
use Prim.Native.Nat.{ℕ, ◌≤◌}
use mathlib.Core.Path.{◌≡◌, refl}
use mathlib.Core.List.{List}
use lib.ListN.{length}
use lib.IntN.{ℤ}
use Rattle.std.specs.Prelude.{Ok}
use Rattle.sizes.specs.Sizes.{n_max}
use Rattle.faults.specs.Checked.{Checked, Found}
use Rattle.faults.specs.Checks.{on_line}
use Rattle.jobs.specs.declared.Result.{Result}
use Rattle.jobs.specs.declared.ResultLine.{ResultLine}
use Rattle.jobs.specs.declared.Verdict.{Verdict}
use Rattle.jobs.specs.Lines.{result_number}
use Rattle.text.specs.Words.{lo_key}
use Rattle.reading.specs.declared.Listed.{Listed}
use Rattle.reading.specs.NumberLines.{list_line}
use Rattle.scan.specs.declared.At.{At}
use Rattle.checks.specs.CheckResult.{counted_check}
use Rattle.faults.specs.declared.Fault.{Fault}
use Rattle.lines.specs.Lines.{number_of, visit_of, verdict_of, steps_of, any_low_of, high_of}
use Rattle.lines.proofs.Checks.{counted-fine}
use Rattle.line_read.specs.At.{said, onward, line_from}
use Rattle.line_read.specs.States.{Leads}
use Rattle.line_read.proofs.Ways.{line-leads, told-passed}
use Rattle.result_form.specs.ResultForm.{result_form_of, result_says, leaves}
use Rattle.result_form.specs.ResultForm.{with_number, with_visit, with_verdict, with_steps, with_low, with_high}

module _ (t : List ℕ) (v : Result) (a : ℕ) (h : a ≤ length t) where
  pub number-leads : {r : Found (At ℕ)} {q : Checked (At ℕ)} → r ≡ line_from (said number_of t a) (onward t a)
      → q ≡ on_line r (result_number ResultLine.Number)
      → Leads result_form_of t a ResultLine.Number v q (λ x. ResultLine.Visit) (with_number v)
  unfolding result_says
  number-leads e =
      line-leads result_form_of t ResultLine.Number v a h refl number_of
      (λ x. leaves ResultLine.Visit (with_number v x)) refl e refl

  pub visit-leads : {r : Found (At ℕ)} {q : Checked (At ℕ)} → r ≡ line_from (said visit_of t a) (onward t a)
      → q ≡ on_line r (result_number ResultLine.Visit)
      → Leads result_form_of t a ResultLine.Visit v q (λ x. ResultLine.Verdict) (with_visit v)
  unfolding result_says
  visit-leads e =
      line-leads result_form_of t ResultLine.Visit v a h refl visit_of
      (λ x. leaves ResultLine.Verdict (with_visit v x)) refl e refl

  pub verdict-leads : {r : Found (At Verdict)} {q : Checked (At Verdict)}
      → r ≡ line_from (said verdict_of t a) (onward t a) → q ≡ on_line r (result_number ResultLine.Verdict)
      → Leads result_form_of t a ResultLine.Verdict v q (λ x. ResultLine.Steps) (with_verdict v)
  unfolding result_says
  verdict-leads e =
      line-leads result_form_of t ResultLine.Verdict v a h refl verdict_of
      (λ x. leaves ResultLine.Steps (with_verdict v x)) refl e refl

  pub steps-leads : {r : Found (At ℕ)} {q : Checked (At ℕ)} → r ≡ line_from (said steps_of t a) (onward t a)
      → q ≡ on_line r (result_number ResultLine.Steps)
      → Leads result_form_of t a ResultLine.Steps v q (λ x. ResultLine.Lo) (with_steps v)
  unfolding result_says
  steps-leads e =
      line-leads result_form_of t ResultLine.Steps v a h refl steps_of
      (λ x. leaves ResultLine.Lo (with_steps v x)) refl e refl

  pub low-leads : {r : Found (At Listed)} {q : Checked (At Listed)}
      → r ≡ line_from (said any_low_of t a) (onward t a) → q ≡ on_line r (result_number ResultLine.Lo)
      → Leads result_form_of t a ResultLine.Lo v q (λ x. ResultLine.Hi) (with_low v)
  unfolding result_says
  low-leads e =
      line-leads result_form_of t ResultLine.Lo v a h refl any_low_of
      (λ x. leaves ResultLine.Hi (with_low v x)) refl e refl

  pub high-leads : {r : Found (At (List ℤ))} {q : Checked (At (List ℤ))}
      → r ≡ line_from (said (high_of v.n v.lo) t a) (onward t a) → q ≡ on_line r (result_number ResultLine.Hi)
      → Leads result_form_of t a ResultLine.Hi v q (λ x. ResultLine.End) (with_high v)
  unfolding result_says
  high-leads e =
      line-leads result_form_of t ResultLine.Hi v a h refl (high_of v.n v.lo)
      (λ x. leaves ResultLine.End (with_high v x)) refl e refl

-- the places of a box have room for it
pub low-few : (t : List ℕ) (a m : ℕ) {r : Found (At Listed)} {y : At Listed}
    → r ≡ line_from (said any_low_of t a) (onward t a) → Ok y ≡ on_line r m → y.value.count ≤ n_max
unfolding any_low_of
low-few t a m {y = y} e q =
    (counted-fine y.value.count y.value.row
    (told-passed (list_line Fault.Spelling lo_key n_max) (λ x. counted_check x.count x.row) t a _ m e q)).0.1
