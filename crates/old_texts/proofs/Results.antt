-- What the old program says of a result text.
use Prim.Native.Nat.{ℕ, ◌<◌}
use native.Mathlib.Omega.{arith}
use mathlib.Core.Path.{◌≡◌, refl, sym, ap, ◌∙◌}
use mathlib.Core.List.{List, foldl}
use mathlib.Core.Logic.{◌⊎◌, inl, inr}
use lib.ListN.{drop}
use Rattle.faults.specs.declared.Fault.{Fault}
use Rattle.faults.specs.Checked.{refused, status_of}
use Rattle.jobs.specs.declared.Result.{Result}
use Rattle.jobs.specs.declared.ResultLine.{ResultLine}
use Rattle.jobs.specs.Lines.{result_number}
use Rattle.checks.specs.CheckResult.{result_check, check_result}
use Rattle.reading.specs.Results.{after}
use Rattle.reading.specs.Lines.{State, Answer, heard, step, begin, read}
use Rattle.reading.specs.Shows.{shown, Passed}
use Rattle.reading.specs.Narrower.{NarrowLine, Narrower, NarrowAnswer}
use Rattle.reading.proofs.Decided.{stays-bad}
use Rattle.reading.proofs.Walk.{all_above, line_read}
use Rattle.reading.proofs.Narrower.{narrow-read, lines-bad}
use Rattle.checks.specs.Answered.{result_in}
use Rattle.lines.specs.Answered.{answered}
use Rattle.lines.proofs.Checks.{counted-fine}
use Rattle.result_form.specs.ResultForm.{result_says, result_form_of, read_result}
use Rattle.result_form.specs.ResultShows.{line, kinds, upto, result_shows, show_result}
use Rattle.result_form.proofs.Back.{law, plain}
use Rattle.result_form.proofs.Trips.{checked-passed, result-width}
use Rattle.result_form.proofs.Answers.{read-checked, read_same, exactly}
use Rattle.old_texts.specs.Old.{n_old, text_old, old_result_says, old_result_form, old_read_result}
use Rattle.old_texts.proofs.Lines.{after-narrow, low_narrow, low-refused}
use Rattle.old_texts.proofs.Lines as lines
use Rattle.std.specs.Prelude.{Ok}

narrower : Narrower result_form_of old_result_says text_old Fault.Unknowns 5
unfolding old_result_says
narrower = record { line = each; fewer = omega arith }
  where
    each : (k : ResultLine) (r : Result) (l : List ℕ)
        → (old_result_says k r l ≡ result_says k r l)
        ⊎ ((result_number k ≡ 5) × NarrowLine Fault.Unknowns (old_result_says k r l) (result_says k r l))
    each ResultLine.Number r l = inl refl
    each ResultLine.Visit r l = inl refl
    each ResultLine.Verdict r l = inl refl
    each ResultLine.Steps r l = inl refl
    each ResultLine.Lo r l = inr (refl, unfold result_says in (after-narrow _ (low_narrow l)))
    each ResultLine.Hi r l = inl refl
    each ResultLine.End r l = inl refl

old-answer : (t : List ℕ) → NarrowAnswer Fault.Unknowns 5 Fault.LongText (read old_result_form t)
    (read result_form_of t)
old-answer = narrow-read result_form_of old_result_says text_old Fault.Unknowns 5 narrower

-- the same answer, or 3 on line 5, or 1
pub same_or : (t : List ℕ)
    → (old_read_result t ≡ read_result t)
    ⊎ ((old_read_result t ≡ refused Fault.Unknowns 5)
    ⊎ (old_read_result t ≡ refused Fault.LongText 0))
unfolding read_result old_read_result
same_or = lines.same_or (read old_result_form) (read result_form_of) old-answer

-- where it answers neither 1 nor 3
pub same_otherwise : (t : List ℕ) → ((n : ℕ) → status_of (old_read_result t) ≡ refused Fault.LongText n → ⊥)
    → ((n : ℕ) → status_of (old_read_result t) ≡ refused Fault.Unknowns n → ⊥) → read_result t ≡ old_read_result t
unfolding read_result old_read_result
same_otherwise =
    lines.same_otherwise (read old_result_form) (read result_form_of) old-answer

done-too : (t : List ℕ) → status_of (old_read_result t) ≡ Ok tt → read_result t ≡ old_read_result t
unfolding read_result old_read_result
done-too = lines.done-too (read old_result_form) (read result_form_of) old-answer

pub as_before : (t : List ℕ) (r : Result) → old_read_result t ≡ Ok r
    → (read_result t ≡ Ok r) × (show_result r ≡ t)
as_before t r e =
    let now = done-too t (ap status_of e) ∙ e in
    (now, ((exactly t r).0 now).0)

-- ---- a right text of more unknowns

module _ (r : Result) (passed : Passed result_shows kinds r) (many : n_old < r.n) where
  abbrev stands : ResultLine → State Fault ResultLine Result
  stands k = State.at k (upto k r)

  first_read : step old_result_form (stands ResultLine.Number) (line ResultLine.Number r) ≡ stands ResultLine.Visit
  unfolding step old_result_says
  first_read = line_read result_form_of result_shows r _ _ (law r ResultLine.Number tt refl) refl passed.0

  second-read : step old_result_form (stands ResultLine.Visit) (line ResultLine.Visit r) ≡ stands ResultLine.Verdict
  unfolding step old_result_says
  second-read = line_read result_form_of result_shows r _ _ (law r ResultLine.Visit tt refl) refl passed.1.0

  third-read : step old_result_form (stands ResultLine.Verdict) (line ResultLine.Verdict r) ≡ stands ResultLine.Steps
  unfolding step old_result_says
  third-read = line_read result_form_of result_shows r _ _ (law r ResultLine.Verdict tt refl) refl passed.1.1.0

  fourth-read : step old_result_form (stands ResultLine.Steps) (line ResultLine.Steps r) ≡ stands ResultLine.Lo
  unfolding step old_result_says
  fourth-read = line_read result_form_of result_shows r _ _ (law r ResultLine.Steps tt refl) refl passed.1.1.1.0

  fifth-bad : step old_result_form (stands ResultLine.Lo) (line ResultLine.Lo r) ≡ State.bad Fault.Unknowns 5
  unfolding step heard old_result_says after
  fifth-bad = rw (low-refused r.n r.lo many ((law r ResultLine.Lo tt refl).spelt passed.1.1.1.1.0))

  lines-refused : foldl (step old_result_form) (begin old_result_form) (shown result_shows r)
      ≡ State.bad Fault.Unknowns 5
  lines-refused =
      ap (λ s. foldl (step old_result_form) s (drop 1 (shown result_shows r))) first_read
      ∙ ap (λ s. foldl (step old_result_form) s (drop 2 (shown result_shows r))) second-read
      ∙ ap (λ s. foldl (step old_result_form) s (drop 3 (shown result_shows r))) third-read
      ∙ ap (λ s. foldl (step old_result_form) s (drop 4 (shown result_shows r))) fourth-read
      ∙ ap (λ s. foldl (step old_result_form) s (drop 5 (shown result_shows r))) fifth-bad
      ∙ stays-bad old_result_form (drop 5 (shown result_shows r)) Fault.Unknowns 5

-- no right text is too long for the old program
old-refuses : (r : Result) → check_result r ≡ Ok tt → n_old < r.n
    → read old_result_form (show_result r) ≡ Answer.refused Fault.Unknowns 5
unfolding result_check
old-refuses r checked many =
    let passed = checked-passed r checked in
    let few = (counted-fine r.n r.lo passed.1.1.1.1.0).0.1 in
    lines-bad old_result_form (shown result_shows r) Fault.Unknowns 5 (all_above result_shows r (plain r) kinds)
    (omega (arith, result-width r, few)) (lines-refused r passed many)

pub right_new : (t : List ℕ) → status_of (read_result t) ≡ Ok tt → n_old < (result_in (read_result t)).n
    → old_read_result t ≡ refused Fault.Unknowns 5
unfolding old_read_result
right_new t e many =
    ap (λ (x : List ℕ). answered (read old_result_form x)) (sym (read_same t e))
    ∙ ap answered (old-refuses (result_in (read_result t)) (read-checked t e) many)
