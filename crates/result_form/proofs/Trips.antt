-- The result text, both ways.
use Prim.Native.Nat.{ℕ, ◌+◌, ◌*◌, ◌≤◌}
use native.Mathlib.Omega.{arith}
use mathlib.Core.Path.{◌≡◌, refl, ap}
use mathlib.Core.List.{List}
use mathlib.Core.Bool.{true}
use mathlib.Core.Logic.{◌↔◌}
use lib.ListN.{length, get_or}
use lib.IntN.{pos}
use Rattle.sizes.specs.Sizes.{n_max, text_max}
use Rattle.digits.specs.Number.{digits_max}
use Rattle.jobs.specs.declared.Result.{Result}
use Rattle.jobs.specs.declared.Verdict.{Verdict}
use Rattle.reading.specs.Lines.{Answer, read}
use Rattle.reading.specs.NumberLines.{placed}
use Rattle.reading.specs.Shows.{before, live, Passed, Kept, findings, judged}
use Rattle.reading.proofs.Walk.{Tied}
use Rattle.reading.proofs.Trips.{Laws}
use Rattle.lines.proofs.Trips as trips
use Rattle.writing.specs.Wrote
use Rattle.writing.proofs.Lines.{count-line-short, list-line-short, end-length, end_none}
use Rattle.lists.proofs.Tab.{length-tab}
use Rattle.faults.specs.Checked.{status_of}
use Rattle.jobs.specs.declared.ResultLine.{ResultLine}
use Rattle.jobs.specs.Lines.{result_number}
use Rattle.checks.specs.CheckResult.{result_check, result_line_status, check_result}
use Rattle.text.specs.Words.{job_key, visit_key, steps_key, lo_key, hi_key}
use Rattle.lines.specs.Answered.{answered}
use Rattle.lines.specs.Texts.{verdict_text}
use Rattle.lines.proofs.Answered.{status-then, status-last, answer-done}
use Rattle.lines.proofs.Checks.{counted-fine}
use Rattle.result_form.specs.ResultForm.{result_end, result_form_of, read_result}
use Rattle.result_form.specs.ResultShows.{kinds, result_shows, show_result, Spelled}
use Rattle.result_form.proofs.Grows.{grows}
use Rattle.result_form.proofs.Back.{Has, Spelt, law, plain}
use Rattle.std.specs.Prelude.{Ok}

-- ---- how long the text is

word-short : (v : Verdict) → length (Wrote.line (verdict_text v)) ≤ 8 + digits_max + 1
unfolding Wrote.line
word-short Verdict.None = omega arith
word-short Verdict.Unique = omega arith
word-short Verdict.Stalled = omega arith
word-short Verdict.Spent = omega arith

-- what the lines of n unknowns take
abbrev pub result_width : ℕ → ℕ
result_width n = 76 + (digits_max + 2) * (2 + 2 * n)

pub result-width : (r : Result) → length (show_result r) ≤ result_width r.n
result-width r =
    rw
    (end-length _ _, end-length _ _, end-length _ _, end-length _ _, end-length _ _, end-length _ _, end_none)
    (omega (
      arith,
      count-line-short job_key r.number,
      count-line-short visit_key r.visit,
      word-short r.verdict,
      count-line-short steps_key r.steps,
      list-line-short digits_max lo_key (placed r.n r.n r.lo),
      length-tab (pos 0) r.n r.n (λ i. get_or r.lo i (pos 0)),
      list-line-short digits_max hi_key (placed r.n r.n r.hi),
      length-tab (pos 0) r.n r.n (λ i. get_or r.hi i (pos 0)),
    ))

-- no result is longer than a text may be
pub result-short : (r : Result) → r.n ≤ n_max → length (show_result r) ≤ text_max
result-short r few = omega (arith, result-width r)

-- ---- the whole text

ends : (k : ResultLine) → result_end k ≡ true → k ≡ ResultLine.End
ends ResultLine.Number e = cc
ends ResultLine.Visit e = cc
ends ResultLine.Verdict e = cc
ends ResultLine.Steps e = cc
ends ResultLine.Lo e = cc
ends ResultLine.Hi e = cc
ends ResultLine.End e = refl

counted : (k : ResultLine) (v : Result) → Kept result_shows k v → result_number k ≡ length (before result_shows k v) + 1
counted ResultLine.Number v p = refl
counted ResultLine.Visit v p = refl
counted ResultLine.Verdict v p = refl
counted ResultLine.Steps v p = refl
counted ResultLine.Lo v p = refl
counted ResultLine.Hi v p = refl
counted ResultLine.End v p = refl

pub laws : Laws result_form_of result_shows Has Spelt
unfolding result_check
laws = record {
  none = refl;
  grows = grows;
  ends = ends;
  counted = counted;
  last = refl;
  nothing = λ r. refl;
  has = λ r. tt;
  tied = λ r.
      Tied.one refl (Tied.one refl (Tied.one refl (Tied.one refl (Tied.one refl (Tied.one refl Tied.none)))));
  law = law;
  plain = plain;
  short = λ r p. result-short r (counted-fine r.n r.lo p.1.1.1.1.0).0.1;
}

-- "Values handed over without text get the same checks in the same line order"
judged-status : (r : Result) → status_of (answered (judged result_form_of result_shows r)) ≡ check_result r
unfolding check_result result_line_status findings
judged-status r =
    status-then (result_check ResultLine.Number r) _ _ _
    (status-then (result_check ResultLine.Visit r) _ _ _
    (status-then (result_check ResultLine.Verdict r) _ _ _
    (status-then (result_check ResultLine.Steps r) _ _ _
    (status-then (result_check ResultLine.Lo r) _ _ _
    (status-last (result_check ResultLine.Hi r) _ (live result_shows r))))))

pub same-order : (r : Result) → Spelled r → length (show_result r) ≤ text_max
    → status_of (answered (read result_form_of (show_result r))) ≡ check_result r
same-order r s h = trips.same-order result_form_of result_shows Has Spelt laws check_result judged-status r spelt h
  where
    spelt : (k : ResultLine) → Has r k → Spelt r k
    spelt ResultLine.Number p = s.number
    spelt ResultLine.Visit p = s.visit
    spelt ResultLine.Verdict p = tt
    spelt ResultLine.Steps p = s.steps
    spelt ResultLine.Lo p = s.low
    spelt ResultLine.Hi p = s.high
    spelt ResultLine.End p = tt

pub checked-passed : (r : Result) → check_result r ≡ Ok tt → Passed result_shows kinds r
checked-passed = trips.done-passed result_form_of result_shows Has Spelt laws check_result judged-status

-- "Values to text to values gives the same values in the live places."
pub read-write : (r : Result) → check_result r ≡ Ok tt
    → read_result (show_result r) ≡ Ok (live result_shows r)
unfolding read_result
read-write r e = ap answered (trips.read-write result_form_of result_shows Has Spelt laws check_result
    judged-status r e)

-- "Text to values to text gives the same bytes": a text is read without fault exactly where it is the bytes of a result
-- that has none and is zero in its dead places
pub exactly : (t : List ℕ) (r : Result)
    → (read result_form_of t ≡ Answer.done r)
    ↔ ((show_result r ≡ t) × (check_result r ≡ Ok tt) × (live result_shows r ≡ r))
exactly = trips.exactly result_form_of result_shows Has Spelt laws check_result judged-status

-- what the reader takes, the writer takes, and writes as it stood
pub write_read : (t : List ℕ) (r : Result) → read_result t ≡ Ok r
    → (show_result r ≡ t) × (check_result r ≡ Ok tt) × (live result_shows r ≡ r)
unfolding read_result
write_read t r e = (exactly t r).0 (answer-done (read result_form_of t) r e)
