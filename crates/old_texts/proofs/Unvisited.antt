-- A result text of before request P12 has the verdict where the visit is due.
use Prim.Native.Nat.{ℕ}
use mathlib.Core.Path.{◌≡◌, refl, sym, ap, ◌∙◌}
use mathlib.Core.List.{List, [], ◌∷◌, foldl}
use lib.ListN.{length}
use lib.Dec.{eqb}
use Rattle.digits.specs.Bytes.{line_feed}
use Rattle.digits.specs.Number.{read_magnitude, read_number}
use Rattle.digits.proofs.Cases.{either}
use Rattle.text.specs.Cut.{pieces, rest}
use Rattle.text.specs.Keys.{starts_with, body_of}
use Rattle.text.specs.Counts.{count_of}
use Rattle.sizes.specs.Sizes.{text_max}
use Rattle.faults.specs.declared.Fault.{Fault}
use Rattle.faults.specs.Checked.{Found, refused}
use Rattle.jobs.specs.Zero.{no_result}
use Rattle.jobs.specs.declared.Result.{Result}
use Rattle.jobs.specs.declared.ResultLine.{ResultLine}
use Rattle.jobs.specs.declared.Verdict.{Verdict}
use Rattle.reading.specs.Results.{after}
use Rattle.reading.specs.Lines.{State, Answer, heard, step, begin, ended, read}
use Rattle.reading.specs.NumberLines.{counted, count_line}
use Rattle.reading.proofs.Decided.{stays-bad}
use Rattle.reading.proofs.Goes.{and-false, read-long}
use Rattle.reading.proofs.Reading.{refused-done}
use Rattle.reading.proofs.Narrower.{read-lines}
use Rattle.lines.specs.Answered.{answered}
use Rattle.lines.specs.Lines.{number_of, visit_of, verdict_of, misspelled}
use Rattle.lines.specs.Texts.{verdict_text}
use Rattle.lines.proofs.Words.{verdict-told}
use Rattle.result_form.specs.ResultForm.{with_number, with_verdict, leaves, result_says, result_form_of}
use Rattle.result_form.specs.ResultForm.{read_result}
use Rattle.old_texts.specs.Unvisited.{unvisited_says, unvisited_form}
use Rattle.std.specs.Prelude.{Ok, Err}

-- no verdict's line is a visit's
word-no-visit : (v : Verdict) → visit_of (verdict_text v) ≡ misspelled
unfolding visit_of count_line counted count_of read_number read_magnitude body_of starts_with
word-no-visit Verdict.None = refl
word-no-visit Verdict.Unique = refl
word-no-visit Verdict.Stalled = refl
word-no-visit Verdict.Spent = refl

verdict-no-visit : (l : List ℕ) (v : Verdict) → verdict_of l ≡ Ok v → visit_of l ≡ misspelled
verdict-no-visit l v e = ap visit_of (sym ((verdict-told l).told v e)) ∙ word-no-visit v

-- ---- what was read without fault has a right number on its line 1 and a verdict on its line 2

abbrev Stands : Type 0
Stands = State Fault ResultLine Result

module _ (held : ℕ) (r : Result) where
  -- these lines, after what is read so far, are all and have no fault
  abbrev WereRead : Stands → List (List ℕ) → Type 0
  WereRead s ls = ended unvisited_form (foldl (step unvisited_form) s ls) held ≡ Answer.done r

  abbrev Refused : Stands → List (List ℕ) → Type 0
  Refused s ls = foldl (step result_form_of) s ls ≡ State.bad Fault.Spelling 2

  not-bad : (ls : List (List ℕ)) (f : Fault) (n : ℕ) → WereRead (State.bad f n) ls → ⊥
  unfolding ended
  not-bad ls f n e =
      refused-done
      (sym (ap (λ (s : Stands). ended unvisited_form s held) (stays-bad unvisited_form ls f n)) ∙ e)

  visit-bad : (v : Result) (l : List ℕ) → visit_of l ≡ misspelled
      → step result_form_of (State.at ResultLine.Visit v) l ≡ State.bad Fault.Spelling 2
  unfolding step heard result_says after
  visit-bad v l e = rw e

  second : (v : Result) (l : List ℕ) (ls : List (List ℕ)) → WereRead (State.at ResultLine.Verdict v) (l ∷ ls)
      → Refused (State.at ResultLine.Visit v) (l ∷ ls)
  unfolding step heard unvisited_says result_says after
  second v l ls = go (verdict_of l) refl
    where
      go : (g : Found Verdict) → verdict_of l ≡ g
          → WereRead (heard 2 (after g (λ w. leaves ResultLine.Steps (with_verdict v w)))) ls
          → Refused (State.at ResultLine.Visit v) (l ∷ ls)
      go (Err f) q e = absurd (not-bad ls f 2 e)
      go (Ok w) q e =
          ap (λ (s : Stands). foldl (step result_form_of) s ls) (visit-bad v l (verdict-no-visit l w q))
          ∙ stays-bad result_form_of ls Fault.Spelling 2

  lines-refused : (ls : List (List ℕ)) → WereRead (begin unvisited_form) ls → Refused (begin result_form_of) ls
  unfolding step heard unvisited_says result_says after ended
  lines-refused [] e = absurd (refused-done (rw (and-false (eqb held 0)) at e))
  lines-refused (l ∷ ls) e = go (number_of l) ls e
    where
      go : (g : Found ℕ) (ls : List (List ℕ))
          → WereRead (heard 1 (after g (λ m. leaves ResultLine.Verdict (with_number no_result m)))) ls
          → Refused (heard 1 (after g (λ m. leaves ResultLine.Visit (with_number no_result m)))) ls
      go (Err f) ls e = absurd (not-bad ls f 1 e)
      go (Ok m) [] e = absurd (refused-done (rw (and-false (eqb held 0)) at e))
      go (Ok m) (k ∷ ls) e = second (with_number no_result m) k ls e

-- what the program of before took is refused by 2 on line 2
pub refused-now : (t : List ℕ) (r : Result) → read unvisited_form t ≡ Answer.done r
    → read_result t ≡ refused Fault.Spelling 2
unfolding read_result ended
refused-now t r e =
    either text_max (length t) (λ long. absurd (refused-done (sym (read-long unvisited_form t long) ∙ e))) (λ few.
    let lines = pieces line_feed t in
    let held = length (rest line_feed t) in
    let bad = lines-refused held r lines (sym (read-lines unvisited_form t few) ∙ e) in
    ap answered (read-lines result_form_of t few ∙ ap (λ (s : Stands). ended result_form_of s held) bad))
