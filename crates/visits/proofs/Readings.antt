-- The reading of a right visit is right, and a step leaves it so.
use Prim.Native.Nat.{ℕ, ◌+◌, ◌≤◌, ◌<◌}
use native.Mathlib.Omega.{arith}
use mathlib.Core.Path.{◌≡◌, refl, sym, ap₂, ◌∙◌, subst}
use mathlib.Core.Bool.{Bool, true, false, cond, true≢false}
use mathlib.Core.List.{List}
use lib.IntN.{ℤ, pos}
use borrow.Author.Tests.{leb-false}
use Rattle.sizes.specs.Sizes.{n_max, visit_max, steps_max, end_max}
use Rattle.lists.specs.Loops.{tab}
use Rattle.lists.proofs.Tab.{get_or-tab, tab-cong}
use Rattle.intervals.specs.declared.Interval.{Interval}
use Rattle.intervals.specs.Places.{side_at}
use Rattle.jobs.specs.declared.Job.{Job}
use Rattle.jobs.specs.declared.Result.{Result}
use Rattle.jobs.specs.declared.Verdict.{Verdict}
use Rattle.term_checks.specs.Ranges.{all_within, all_ordered}
use Rattle.term_checks.proofs.RangeLaws.{all-within, all-ordered}
use Rattle.checks.specs.Accepted.{Accepted}
use Rattle.checks.specs.Checks.{check_job}
use Rattle.checks.specs.CheckResult.{check_result}
use Rattle.checks.proofs.AcceptedLaws.{check_done}
use Rattle.checks.proofs.CheckResultLaws.{Sound, sound, unfaulted}
use Rattle.slopes.specs.Ranges.{BoxIn}
use Rattle.systems.specs.Kinds.{equation_of}
use Rattle.step.specs.Values.{box_of, start_of, inverse_of}
use Rattle.step.proofs.Given.{box_in_lem, start-in}
use Rattle.run.specs.declared.Outcome.{Outcome}
use Rattle.run.specs.Run.{run_of}
use Rattle.run.specs.Job.{run_from, result_of}
use Rattle.runs.proofs.Runs.{run-count}
use Rattle.reading.specs.NumberLines.{placed}
use Rattle.result_form.specs.ResultShows.{live}
use Rattle.runs.proofs.Results.{from-checked}
use Rattle.visits.specs.Visits.{opened_as, is_finished, added, next_reading, Stands}
use Rattle.std.specs.Prelude.{Ok}

-- the box so far
abbrev pub box_in : Job → Result → List Interval
box_in j r = box_of j.head.n (record { lo = r.lo; hi = r.hi })

pub left_over : (v : Verdict) (steps allowance : ℕ) → is_finished v steps allowance ≡ false → steps < allowance
left_over Verdict.None steps allowance e = absurd (true≢false e)
left_over Verdict.Unique steps allowance e = absurd (true≢false e)
left_over Verdict.Stalled steps allowance e = absurd (true≢false e)
left_over Verdict.Spent steps allowance e = leb-false allowance steps e

module _ (j : Job) (r : Result) (stands : Stands j r) where
  accepted : Accepted j
  accepted = check_done j stands.job

  right : Sound r
  right = sound r stands.reading

  -- what holds with the reading's n holds with the job's
  with-n : (P : ℕ → Type 0) → P r.n → P j.head.n
  with-n P = subst P stands.same

  pub few : r.n ≤ n_max
  few = right.few

  pub box-right : BoxIn j.head.n (side_at (box_in j r))
  box-right =
      let n = j.head.n in
      box_in_lem n accepted.few (record { lo = r.lo; hi = r.hi }) (λ k l. record {
        order = all-ordered r.lo r.hi n (with-n (λ m. all_ordered r.lo r.hi m ≡ true) right.ordered) k l;
        low = all-within r.lo n end_max (with-n (λ m. all_within r.lo m (pos end_max) ≡ true) right.low) k l;
        high = all-within r.hi n end_max (with-n (λ m. all_within r.hi m (pos end_max) ≡ true) right.high) k l;
      })

  abbrev o : Outcome
  o = run_from j (box_in j r) 1

  one : o.steps ≤ 0 + 1
  one = run-count j.head.n (equation_of j) (inverse_of j) 1 0 (box_in j r)

  pub steps-fit : r.steps + o.steps ≤ steps_max + steps_max
  steps-fit = omega (arith, right.steps, one)

  module _ (left : r.steps < j.steps) where
    ran : Sound (result_of j o)
    ran = sound (result_of j o) (from-checked j stands.job (box_in j r) box-right 1 (omega arith))

    added-sound : Sound (added r o)
    unfolding added result_of
    added-sound = record {
      number = right.number;
      visit = right.visit;
      steps = omega (arith, left, one, accepted.steps);
      some = right.some;
      few = right.few;
      low = rw stands.same ran.low;
      high = rw stands.same ran.high;
      ordered = rw stands.same ran.ordered;
    }

    added-stands : Stands j (added r o)
    unfolding added
    added-stands = record {
      job = stands.job;
      reading = unfaulted (added r o) added-sound;
      number = stands.number;
      same = stands.same;
      steps = omega (arith, left, one);
    }

  -- "which .. every call leave[s] whole"
  pub next-stands : Stands j (next_reading j r)
  unfolding next_reading
  next-stands = by (is_finished r.verdict r.steps j.steps) refl
    where
      by : (b : Bool) → is_finished r.verdict r.steps j.steps ≡ b → Stands j (cond b r (added r o))
      by true e = stands
      by false e = added-stands (left_over r.verdict r.steps j.steps e)

-- a step keeps the visit's number
pub next-visit : (j : Job) (r : Result) → (next_reading j r).visit ≡ r.visit
unfolding next_reading added
next-visit j r = by (is_finished r.verdict r.steps j.steps)
  where
    by : (b : Bool) → (cond b r (added r (run_from j (box_in j r) 1))).visit ≡ r.visit
    by true = refl
    by false = refl

-- ---- the dead places of a reading are zero

placed-tab : (n : ℕ) → n ≤ n_max → (f : ℕ → ℤ) → placed n_max n (tab n_max n (pos 0) f) ≡ tab n_max n (pos 0) f
placed-tab n few f = tab-cong (pos 0) n_max n _ f (λ i l. get_or-tab (pos 0) n_max n f (pos 0) i l few)

abbrev with_ends : Result → List ℤ → List ℤ → Result
with_ends r lo hi = record {
  number = r.number;
  visit = r.visit;
  verdict = r.verdict;
  steps = r.steps;
  n = r.n;
  lo = lo;
  hi = hi;
}

pub made-live : (r : Result) → r.n ≤ n_max → (f g : ℕ → ℤ) → r.lo ≡ tab n_max r.n (pos 0) f
    → r.hi ≡ tab n_max r.n (pos 0) g → live r ≡ r
made-live r few f g low high =
    ap₂ (with_ends r) (rw low (placed-tab r.n few f) ∙ sym low) (rw high (placed-tab r.n few g) ∙ sym high)

pub next-live : (j : Job) (r : Result) → r.n ≤ n_max → live r ≡ r → live (next_reading j r) ≡ next_reading j r
unfolding next_reading added
next-live j r few e = by (is_finished r.verdict r.steps j.steps)
  where
    q : Result
    q = added r (run_from j (box_in j r) 1)

    by : (b : Bool) → live (cond b r q) ≡ cond b r q
    by true = e
    by false = made-live q few _ _ refl refl

-- ---- the reading at the opening

module _ (j : Job) (checked : check_job j ≡ Ok tt) (visit : ℕ) where
  pub opened-live : live (opened_as visit j) ≡ opened_as visit j
  unfolding result_of
  opened-live = made-live (opened_as visit j) (check_done j checked).few _ _ refl refl

  pub opened-right : visit ≤ visit_max → check_result (opened_as visit j) ≡ Ok tt
  unfolding result_of run_of
  opened-right h =
      let start = start-in (check_done j checked) in
      let right = from-checked j checked (start_of j) start 0 (omega arith) in
      let none = sound (result_of j (run_from j (start_of j) 0)) right in
      unfaulted (opened_as visit j) record {
        number = none.number;
        visit = h;
        steps = none.steps;
        some = none.some;
        few = none.few;
        low = none.low;
        high = none.high;
        ordered = none.ordered;
      }
