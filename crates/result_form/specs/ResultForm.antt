-- What a result text means: document 01, "The job text and the result text". What each kind of line says stands in
-- crate lines, its number in crate jobs.
use Rattle.std.specs.Prelude.{ℕ, List, Bool, true, false, ℤ}
use Rattle.sizes.specs.Sizes.{text_max}
use Rattle.faults.specs.declared.Fault.{Fault}
use Rattle.faults.specs.Checked.{Found, Checked}
use Rattle.jobs.specs.Zero.{no_result}
use Rattle.jobs.specs.Lines.{result_number}
use Rattle.jobs.specs.declared.Result.{Result}
use Rattle.jobs.specs.declared.ResultLine.{ResultLine}
use Rattle.jobs.specs.declared.Verdict.{Verdict}
use Rattle.reading.specs.Results.{after}
use Rattle.reading.specs.Lines.{Next, Form, read}
use Rattle.reading.specs.declared.Listed.{Listed}
use Rattle.lines.specs.Answered.{answered}
use Rattle.lines.specs.Lines.{number_of, visit_of, verdict_of, steps_of, any_low_of, high_of, misspelled}

-- ---- the lines in their order, and what each leaves

abbrev pub with_number : Result → ℕ → Result
with_number r m = record {
  number = m;
  visit = r.visit;
  verdict = r.verdict;
  steps = r.steps;
  n = r.n;
  lo = r.lo;
  hi = r.hi;
}

abbrev pub with_visit : Result → ℕ → Result
with_visit r m = record {
  number = r.number;
  visit = m;
  verdict = r.verdict;
  steps = r.steps;
  n = r.n;
  lo = r.lo;
  hi = r.hi;
}

abbrev pub with_verdict : Result → Verdict → Result
with_verdict r v = record {
  number = r.number;
  visit = r.visit;
  verdict = v;
  steps = r.steps;
  n = r.n;
  lo = r.lo;
  hi = r.hi;
}

abbrev pub with_steps : Result → ℕ → Result
with_steps r m = record {
  number = r.number;
  visit = r.visit;
  verdict = r.verdict;
  steps = m;
  n = r.n;
  lo = r.lo;
  hi = r.hi;
}

abbrev pub with_low : Result → Listed → Result
with_low r x = record {
  number = r.number;
  visit = r.visit;
  verdict = r.verdict;
  steps = r.steps;
  n = x.count;
  lo = x.row;
  hi = r.hi;
}

abbrev pub with_high : Result → List ℤ → Result
with_high r xs = record {
  number = r.number;
  visit = r.visit;
  verdict = r.verdict;
  steps = r.steps;
  n = r.n;
  lo = r.lo;
  hi = xs;
}

abbrev pub leaves : ResultLine → Result → Next ResultLine Result
leaves k r = record { kind = k; value = r }

unfoldable pub result_says : ResultLine → Result → List ℕ → Found (Next ResultLine Result)
result_says ResultLine.Number v l = after (number_of l) (λ m. leaves ResultLine.Visit (with_number v m))
result_says ResultLine.Visit v l = after (visit_of l) (λ m. leaves ResultLine.Verdict (with_visit v m))
result_says ResultLine.Verdict v l = after (verdict_of l) (λ w. leaves ResultLine.Steps (with_verdict v w))
result_says ResultLine.Steps v l = after (steps_of l) (λ m. leaves ResultLine.Lo (with_steps v m))
result_says ResultLine.Lo v l = after (any_low_of l) (λ x. leaves ResultLine.Hi (with_low v x))
result_says ResultLine.Hi v l = after (high_of v.n v.lo l) (λ xs. leaves ResultLine.End (with_high v xs))
result_says ResultLine.End v l = misspelled

abbrev pub result_end : ResultLine → Bool
result_end ResultLine.Number = false
result_end ResultLine.Visit = false
result_end ResultLine.Verdict = false
result_end ResultLine.Steps = false
result_end ResultLine.Lo = false
result_end ResultLine.Hi = false
result_end ResultLine.End = true

abbrev pub result_form_of : Form Fault ResultLine Result
result_form_of = record {
  first = ResultLine.Number;
  none = no_result;
  last = result_end;
  number = λ k v. result_number k;
  says = result_says;
  most = text_max;
  long = Fault.LongText;
  odd = Fault.Spelling;
}

unfoldable pub read_result : List ℕ → Checked Result
read_result t = answered (read result_form_of t)
