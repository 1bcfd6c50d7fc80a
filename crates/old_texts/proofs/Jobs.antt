-- What the old program says of a job text.
use Prim.Native.Nat.{ℕ, ◌<◌}
use native.Mathlib.Omega.{arith}
use mathlib.Core.Path.{◌≡◌, refl, sym, ap, ◌∙◌}
use mathlib.Core.List.{List, foldl}
use mathlib.Core.Logic.{◌⊎◌, inl, inr}
use lib.ListN.{drop}
use Rattle.faults.specs.declared.Fault.{Fault}
use Rattle.faults.specs.Checked.{refused, status_of}
use Rattle.jobs.specs.declared.Job.{Job}
use Rattle.jobs.specs.declared.JobLine.{JobLine}
use Rattle.jobs.specs.Lines.{job_number}
use Rattle.checks.specs.Checks.{check_job}
use Rattle.checks.proofs.AcceptedLaws.{check_done}
use Rattle.checks.specs.Answered.{job_in}
use Rattle.lines.specs.Answered.{answered}
use Rattle.reading.specs.Results.{after}
use Rattle.reading.specs.Lines.{State, Answer, heard, step, begin, read}
use Rattle.reading.specs.Shows.{shown, Passed}
use Rattle.reading.specs.Narrower.{NarrowLine, Narrower, NarrowAnswer}
use Rattle.reading.proofs.Decided.{stays-bad}
use Rattle.reading.proofs.Walk.{all_above, line_read}
use Rattle.reading.proofs.Narrower.{narrow-read, lines-bad}
use Rattle.job_form.specs.JobForm.{job_says, job_form_of, read_job}
use Rattle.job_form.specs.JobBytes.{job_line, job_prior, job_shows, job_bytes}
use Rattle.job_form.specs.Live.{job_upto}
use Rattle.job_form.proofs.Back.{law, plain}
use Rattle.job_form.proofs.Short.{job-width}
use Rattle.job_form.proofs.Trips.{checked-passed}
use Rattle.job_form.proofs.Answers.{read-checked, read_same, exactly}
use Rattle.old_texts.specs.Old.{n_old, text_old, old_job_says, old_job_form, old_read_job}
use Rattle.old_texts.proofs.Lines.{after-narrow, unknowns-narrow, unknowns-refused}
use Rattle.old_texts.proofs.Lines as lines
use Rattle.std.specs.Prelude.{Ok}

narrower : Narrower job_form_of old_job_says text_old Fault.Unknowns 3
unfolding old_job_says
narrower = record { line = line; fewer = omega arith }
  where
    line : (k : JobLine) (j : Job) (l : List ℕ)
        → (old_job_says k j l ≡ job_says k j l)
        ⊎ ((job_number k j.head ≡ 3) × NarrowLine Fault.Unknowns (old_job_says k j l) (job_says k j l))
    line JobLine.Number j l = inl refl
    line JobLine.Kind j l = inl refl
    line JobLine.Unknowns j l = inr (refl, unfold job_says in (after-narrow _ (unknowns-narrow l)))
    line JobLine.Pin j l = inl refl
    line JobLine.Lo j l = inl refl
    line JobLine.Hi j l = inl refl
    line JobLine.Inv j l = inl refl
    line JobLine.Steps j l = inl refl
    line (JobLine.System i) j l = inl refl
    line JobLine.End j l = inl refl

old-answer : (t : List ℕ) → NarrowAnswer Fault.Unknowns 3 Fault.LongText (read old_job_form t) (read job_form_of t)
old-answer = narrow-read job_form_of old_job_says text_old Fault.Unknowns 3 narrower

-- the same answer, or 3 on line 3, or 1
pub same_or : (t : List ℕ)
    → (old_read_job t ≡ read_job t)
    ⊎ ((old_read_job t ≡ refused Fault.Unknowns 3)
    ⊎ (old_read_job t ≡ refused Fault.LongText 0))
unfolding read_job old_read_job
same_or = lines.same_or (read old_job_form) (read job_form_of) old-answer

-- where it answers neither 1 nor 3
pub same_otherwise : (t : List ℕ) → ((n : ℕ) → status_of (old_read_job t) ≡ refused Fault.LongText n → ⊥)
    → ((n : ℕ) → status_of (old_read_job t) ≡ refused Fault.Unknowns n → ⊥) → read_job t ≡ old_read_job t
unfolding read_job old_read_job
same_otherwise =
    lines.same_otherwise (read old_job_form) (read job_form_of) old-answer

done-too : (t : List ℕ) → status_of (old_read_job t) ≡ Ok tt → read_job t ≡ old_read_job t
unfolding read_job old_read_job
done-too = lines.done-too (read old_job_form) (read job_form_of) old-answer

pub as_before : (t : List ℕ) (j : Job) → old_read_job t ≡ Ok j
    → (read_job t ≡ Ok j) × (job_bytes j ≡ t)
as_before t j e =
    let now = done-too t (ap status_of e) ∙ e in
    (now, ((exactly t j).0 now).0)

-- ---- a right text of more unknowns

module _ (j : Job) (passed : Passed job_shows (job_prior JobLine.End j) j) (many : n_old < j.head.n) where
  abbrev stands : JobLine → State Fault JobLine Job
  stands k = State.at k (job_upto k j)

  first_read : step old_job_form (stands JobLine.Number) (job_line JobLine.Number j) ≡ stands JobLine.Kind
  unfolding step old_job_says
  first_read = line_read job_form_of job_shows j _ _ (law j JobLine.Number tt refl) refl passed.0

  second-read : step old_job_form (stands JobLine.Kind) (job_line JobLine.Kind j) ≡ stands JobLine.Unknowns
  unfolding step old_job_says
  second-read = line_read job_form_of job_shows j _ _ (law j JobLine.Kind tt refl) refl passed.1.0

  third-bad : step old_job_form (stands JobLine.Unknowns) (job_line JobLine.Unknowns j) ≡ State.bad Fault.Unknowns 3
  unfolding step heard old_job_says after
  third-bad = rw (unknowns-refused j.head.n many ((law j JobLine.Unknowns tt refl).spelt passed.1.1.0))

  lines-refused : foldl (step old_job_form) (begin old_job_form) (shown job_shows j) ≡ State.bad Fault.Unknowns 3
  lines-refused =
      ap (λ s. foldl (step old_job_form) s (drop 1 (shown job_shows j))) first_read
      ∙ ap (λ s. foldl (step old_job_form) s (drop 2 (shown job_shows j))) second-read
      ∙ ap (λ s. foldl (step old_job_form) s (drop 3 (shown job_shows j))) third-bad
      ∙ stays-bad old_job_form (drop 3 (shown job_shows j)) Fault.Unknowns 3

-- no right text is too long for the old program
old-refuses : (j : Job) → check_job j ≡ Ok tt → n_old < j.head.n
    → read old_job_form (job_bytes j) ≡ Answer.refused Fault.Unknowns 3
old-refuses j checked many =
    lines-bad old_job_form (shown job_shows j) Fault.Unknowns 3
    (all_above job_shows j (plain j) (job_prior JobLine.End j))
    (omega (arith, job-width j (check_done j checked))) (lines-refused j (checked-passed j checked) many)

pub right_new : (t : List ℕ) → status_of (read_job t) ≡ Ok tt → n_old < (job_in (read_job t)).head.n
    → old_read_job t ≡ refused Fault.Unknowns 3
unfolding old_read_job
right_new t e many =
    ap (λ (x : List ℕ). answered (read old_job_form x)) (sym (read_same t e))
    ∙ ap answered (old-refuses (job_in (read_job t)) (read-checked t e) many)
