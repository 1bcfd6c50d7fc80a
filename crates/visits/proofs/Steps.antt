-- Steps add up: after so many step calls the reading is that of a run with so many steps.
use Prim.Native.Nat.{ℕ, zero, suc, ◌+◌, ◌<◌, min}
use native.Mathlib.Omega.{arith}
use mathlib.Core.Path.{◌≡◌, refl, sym, ap, ◌∙◌}
use mathlib.Core.Bool.{true}
use mathlib.Core.List.{List}
use mathlib.Core.Logic.{⊎_elim}
use borrow.Author.Tests.{lt-leb, le-leb}
use Rattle.digits.proofs.Cases.{either}
use Rattle.intervals.specs.declared.Interval.{Interval}
use Rattle.jobs.specs.declared.Job.{Job}
use Rattle.jobs.specs.declared.Result.{Result}
use Rattle.jobs.specs.declared.Verdict.{Verdict}
use Rattle.checks.specs.Accepted.{Accepted}
use Rattle.checks.specs.Checks.{check_job}
use Rattle.checks.proofs.AcceptedLaws.{check_done}
use Rattle.systems.specs.Kinds.{equation_of}
use Rattle.step.specs.declared.Move.{Move}
use Rattle.step.specs.Decide.{step_of}
use Rattle.step.specs.Values.{box_of, ends_of, start_of, inverse_of}
use Rattle.step.proofs.Given.{box-back}
use Rattle.run.specs.declared.Outcome.{Outcome}
use Rattle.run.specs.Run.{outcome, settle, run_of}
use Rattle.run.specs.Job.{run_from, outcome_of, result_of}
use Rattle.runs.proofs.Runs.{spent-or, run-back, run-one, whole-spent, run_on, run-stays}
use Rattle.visits.specs.Visits.{reading_of, opened_as, is_finished, added, next_reading, times}
use Rattle.std.specs.Prelude.{Ok}

-- a decided reading is finished
decided-finished : (v : Verdict) (steps allowance : ℕ) → (v ≡ Verdict.Spent → ⊥) → is_finished v steps allowance ≡ true
decided-finished Verdict.None steps allowance h = refl
decided-finished Verdict.Unique steps allowance h = refl
decided-finished Verdict.Stalled steps allowance h = refl
decided-finished Verdict.Spent steps allowance h = absurd (h refl)

-- a step that is counted from t on
counted : (m : Move) (y : List Interval) (t : ℕ)
    → settle m y (t + 1) (outcome Verdict.Spent (t + 1))
    ≡ outcome (settle m y 1 (outcome Verdict.Spent 1)).verdict (t + (settle m y 1 (outcome Verdict.Spent 1)).steps)
    (settle m y 1 (outcome Verdict.Spent 1)).sides
counted Move.None y t = refl
counted Move.Unique y t = refl
counted Move.Stalled y t = refl
counted Move.Next y t = refl

module _ (j : Job) (checked : check_job j ≡ Ok tt) (visit : ℕ) where
  accepted : Accepted j
  accepted = check_done j checked

  abbrev n : ℕ
  n = j.head.n

  -- the run of the job with so many steps, and its reading
  abbrev ran : ℕ → Outcome
  ran a = run_from j (start_of j) a

  abbrev reads : ℕ → Result
  reads a = reading_of visit j (ran a)

  start_back : box_of n (ends_of n (start_of j)) ≡ start_of j
  unfolding box_of
  start_back = box-back n accepted.few _ refl

  -- the box of a reading is the one that the run left
  pub box-so-far : (a : ℕ) → box_of n (record { lo = (reads a).lo; hi = (reads a).hi }) ≡ (ran a).sides
  unfolding result_of
  box-so-far a = run-back n (equation_of j) (inverse_of j) accepted.few a 0 (start_of j) start_back

  -- one step from there
  step-counted : (a : ℕ) → (ran a).verdict ≡ Verdict.Spent
      → ran (a + 1) ≡ outcome (run_from j (ran a).sides 1).verdict (a + (run_from j (ran a).sides 1).steps)
      (run_from j (ran a).sides 1).sides
  step-counted a spent =
      let q = equation_of j in
      let C = inverse_of j in
      let d = step_of n q C (ran a).sides in
      run_on n q C a 1 0 (start_of j) (whole-spent n q C a (start_of j) spent)
      ∙ run-one n q C a (ran a).sides
      ∙ counted d.what d.sides a
      ∙ ap (λ (o : Outcome). outcome o.verdict (a + o.steps) o.sides) (sym (run-one n q C 0 (ran a).sides))

  steps-spent : (a : ℕ) → (ran a).verdict ≡ Verdict.Spent → (ran a).steps ≡ a
  steps-spent a spent =
      ap (λ (o : Outcome). o.steps) (whole-spent n (equation_of j) (inverse_of j) a (start_of j) spent)

  stays : (a : ℕ) → ((ran a).verdict ≡ Verdict.Spent → ⊥) → next_reading j (reads a) ≡ reads a
  unfolding next_reading result_of
  stays a decided = rw (decided-finished (ran a).verdict (ran a).steps j.steps decided)

  -- "a step call moves one visit's job by one step"
  pub next-run : (a : ℕ) → a < j.steps → next_reading j (reads a) ≡ reads (a + 1)
  unfolding next_reading added result_of
  next-run a left = ⊎_elim going (λ decided. stays a decided ∙ ap (reading_of visit j) (sym (done decided)))
      (spent-or (ran a).verdict)
    where
      done : ((ran a).verdict ≡ Verdict.Spent → ⊥) → ran (a + 1) ≡ ran a
      done = run-stays n (equation_of j) (inverse_of j) a 1 0 (start_of j)

      going : (ran a).verdict ≡ Verdict.Spent → next_reading j (reads a) ≡ reads (a + 1)
      going spent =
          rw (spent, steps-spent a spent, lt-leb j.steps a left, box-so-far a)
          (ap (reading_of visit j) (sym (step-counted a spent)))

  -- "and changes nothing on a finished one"
  pub next-finished : next_reading j (reads j.steps) ≡ reads j.steps
  unfolding next_reading result_of
  next-finished = ⊎_elim spent_all (stays j.steps) (spent-or (ran j.steps).verdict)
    where
      spent_all : (ran j.steps).verdict ≡ Verdict.Spent → next_reading j (reads j.steps) ≡ reads j.steps
      spent_all spent = rw (spent, steps-spent j.steps spent, le-leb j.steps j.steps (omega arith))

  -- after so many step calls
  pub steps-add : (calls : ℕ) → times calls (next_reading j) (opened_as visit j) ≡ reads (min calls j.steps)
  unfolding times run_of
  steps-add zero = let none : 0 ≡ min 0 j.steps = omega arith in ap reads none
  steps-add (suc calls) = go (steps-add calls)
    where
      go : times calls (next_reading j) (opened_as visit j) ≡ reads (min calls j.steps)
          → times (suc calls) (next_reading j) (opened_as visit j) ≡ reads (min (suc calls) j.steps)
      go so_far = either calls j.steps (λ l.
          let before : min calls j.steps ≡ calls = omega arith in
          let after : calls + 1 ≡ min (suc calls) j.steps = omega arith in
          ap (next_reading j) (so_far ∙ ap reads before) ∙ next-run calls l ∙ ap reads after) (λ l.
          let before : min calls j.steps ≡ j.steps = omega arith in
          let after : j.steps ≡ min (suc calls) j.steps = omega arith in
          ap (next_reading j) (so_far ∙ ap reads before) ∙ next-finished ∙ ap reads after)

  -- "the answer after them is that of one run"
  pub last-run : reads j.steps ≡ reading_of visit j (outcome_of j)
  unfolding outcome_of
  last-run = refl

  -- a reading that is spent has all its steps
  pub reads-spent : (a : ℕ) → (reads a).verdict ≡ Verdict.Spent → (reads a).steps ≡ a
  unfolding result_of
  reads-spent = steps-spent
