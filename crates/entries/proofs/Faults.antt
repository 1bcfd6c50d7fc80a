-- What is told of a status: by the table of its values, by a lent buffer.
use mathlib.Core.Path.{◌≡◌, refl, sym, ap, ◌∙◌}
use mathlib.Core.Bool.{Bool, true, false, cond}
use mathlib.Core.List.{List, [], ◌∷◌, ◌++◌, append-nil}
use mathlib.Core.Logic.{◌↔◌}
use Prim.Native.Nat.{ℕ, zero, suc, ◌<◌}
use native.Mathlib.Omega.{arith}
use lib.Dec.{eqb, ltb}
use lib.IntN.{ℤ}
use lib.ListN.{length}
use borrow.Author.Tests.{lt-ltb, ltb-true, ne_eqb, eqb-false}
use Rattle.faults.specs.Words.{fault_number, number_of}
use Rattle.checks.specs.Checks.{check_job}
use Rattle.checks.specs.CheckResult.{check_result}
use Rattle.faults.specs.declared.Fault.{Fault}
use Rattle.jobs.specs.declared.Kind.{Kind}
use Rattle.jobs.specs.declared.Job.{Job}
use Rattle.jobs.specs.declared.Result.{Result}
use Rattle.faults.specs.Checked.{Checked, Status, status_of, refused}
use Rattle.faults.specs.Checks.{and_then}
use Rattle.faults.specs.Answer.{answer_of, Leaves}
use Rattle.step.proofs.Decisions.{zero_one}
use Rattle.run.specs.Job.{answer_by, run_job}
use Rattle.entries.specs.Numbers.{Told, told, tell, or_else, short_buffer, Row, first_given, each_line}
use Rattle.entries.specs.Numbers.{system_rows, pin_rows, box_rows}
use Rattle.entries.specs.Numbers.{job_rows, result_rows}
use Rattle.one_step.specs.OneStep.{gives_image, gives_move}
use Rattle.halving.specs.Halving.{halve_status}
use Rattle.one_step.proofs.Given.{image-status, decide-status}
use Rattle.jobs.specs.declared.Ends.{Ends}
use Rattle.entries.specs.Numbers.{image_rows, decide_rows, halve_rows}
use Rattle.entries.proofs.Explained.{number-some}
use Rattle.entries.proofs.Rows.{Tells, before, job-tells, result-tells, image-tells, decide-tells, halve-tells}
use Rattle.std.specs.Prelude.{Ok, Err}

-- ---- values
before-none : (st : Status) → before st (tell 0 0) ≡ told st
before-none (Ok tt) = refl
before-none (Err r) = refl

first-told : {rows : List Row} {st : Status} → Tells rows st → told st ≡ first_given rows
first-told {rows} {st} h = sym (ap first_given (sym (append-nil rows)) ∙ h.all [] ∙ before-none st)

pub job-first : (j : Job) → told (check_job j) ≡ first_given (job_rows j)
job-first j = first-told (job-tells j)

pub result-first : (r : Result) → told (check_result r) ≡ first_given (result_rows r)
result-first r = first-told (result-tells r)

-- what an answer tells is what its status tells
pub told-status : {A : Type 0} (a : Checked A) → told (status_of a) ≡ told a
told-status (Ok x) = refl
told-status (Err r) = refl

pub image-first : (j : Job) (x : Ends) → told (gives_image j x) ≡ first_given (image_rows j x)
image-first j x = sym (told-status (gives_image j x)) ∙ ap told (image-status j x) ∙ first-told (image-tells j x)

pub decide-first : (n : ℕ) (x k : Ends) → told (gives_move n x k) ≡ first_given (decide_rows n x k)
decide-first n x k = sym (told-status (gives_move n x k)) ∙ ap told (decide-status n x k) ∙ first-told (decide-tells n x k)

pub halve-first : (j : Job) (depth : ℤ) (room : ℕ)
    → told (halve_status j depth room) ≡ first_given (halve_rows j depth room)
halve-first j depth room = first-told (halve-tells j depth room)

-- no row has the number 7
abbrev without : List Row → Bool
without [] = true
without (r ∷ rs) = cond (eqb r.number 7) false (without rs)

without-first : (rows : List Row) → without rows ≡ true → (first_given rows).number ≡ 7 → ⊥
without-first [] e n = omega arith
without-first (r ∷ rs) e n = by r.given (eqb r.number 7) refl e n (without-first rs)
  where
    by : (g b : Bool) → eqb r.number 7 ≡ b → cond b false (without rs) ≡ true
        → (cond g (tell r.number r.line) (first_given rs)).number ≡ 7
        → (without rs ≡ true → (first_given rs).number ≡ 7 → ⊥) → ⊥
    by g true q e n rest = zero_one (cc)
    by true false q e n rest = eqb-false r.number 7 q n
    by false false q e n rest = rest e n

without-both : (xs ys : List Row) → without xs ≡ true → without ys ≡ true → without (xs ++ ys) ≡ true
without-both [] ys e h = h
without-both (r ∷ xs) ys e h = by (eqb r.number 7) e (λ e. without-both xs ys e h)
  where
    by : (b : Bool) → cond b false (without xs) ≡ true → (without xs ≡ true → without (xs ++ ys) ≡ true)
        → cond b false (without (xs ++ ys)) ≡ true
    by true e rest = e
    by false e rest = rest e

without-lines : (n : ℕ) (f : ℕ → List Row) → ((i : ℕ) → without (f i) ≡ true) → without (each_line n f) ≡ true
without-lines zero f h = refl
without-lines (suc n) f h = without-both (each_line n f) (f n) (without-lines n f h) (h n)

pub job-values : (j : Job) → number_of (check_job j) ≡ 7 → ⊥
job-values j n =
    without-first (job_rows j)
    (without-both (pin_rows j.head.kind j) (box_rows j) (pin j.head.kind)
    (without-lines j.head.n (system_rows j.head.kind j) (by j.head.kind)))
    (sym (ap (λ (x : Told). x.number) (job-first j)) ∙ n)
  where
    pin : (k : Kind) → without (pin_rows k j) ≡ true
    pin Kind.Poly = refl
    pin Kind.Linear = refl
    pin Kind.Eigen = refl

    by : (k : Kind) (i : ℕ) → without (system_rows k j i) ≡ true
    by Kind.Poly i = refl
    by Kind.Linear i = refl
    by Kind.Eigen i = refl

pub result-values : (r : Result) → number_of (check_result r) ≡ 7 → ⊥
result-values r n = without-first (result_rows r) refl (sym (ap (λ (x : Told). x.number) (result-first r)) ∙ n)

pub run-status : (j : Job) → status_of (run_job j) ≡ check_job j
unfolding run_job and_then
run-status j = by (check_job j)
  where
    by : (st : Status) → status_of (answer_by st j) ≡ st
    by (Ok tt) = refl
    by (Err r) = refl

-- ---- a lent buffer
numbered : (f : Fault) → fault_number f ≡ 0 → ⊥
numbered f e = omega (arith, number-some f)

-- "When writing, faults of the values come before 7"
written-told : (st : Status) (old t : List ℕ) → told (answer_of st old t)
    ≡ or_else (told st) (short_buffer old t)
unfolding answer_of
written-told (Ok tt) old t = by (ltb (length old) (length t))
  where
    short : Checked ℕ
    short = refused Fault.ShortBuffer 0

    by : (b : Bool) → told (cond b short (Ok (length t)))
        ≡ cond b (tell 7 0) (tell 0 0)
    by true = refl
    by false = refl
written-told (Err r) old t = rw (ne_eqb (fault_number r.fault) 0 (numbered r.fault)) refl

seven : (st : Status) (old t : List ℕ) → (number_of st ≡ 7 → ⊥)
    → ((or_else (told st) (short_buffer old t)).number ≡ 7) ↔ ((number_of st ≡ 0) × (length old < length t))
seven (Ok tt) old t other =
    (by (ltb (length old) (length t)) refl, λ h. rw (lt-ltb (length old) (length t) h.1) refl)
  where
    by : (b : Bool) → ltb (length old) (length t) ≡ b → (cond b (tell 7 0) (tell 0 0)).number ≡ 7
        → (◌≡◌ {A = ℕ} 0 0) × (length old < length t)
    by true e n = (refl, ltb-true (length old) (length t) e)
    by false e n = absurd (zero_one (omega arith))
seven (Err r) old t other =
    (λ n. absurd (other (rw (ne_eqb (fault_number r.fault) 0 (numbered r.fault)) at n)), λ h. absurd (numbered r.fault h.0))

-- an answer that the contract of a writer allows
module _ {st : Status} {t old new : List ℕ} {a : Checked ℕ} (leaves : Leaves st t old new a) where
  pub answer-told : told a ≡ or_else (told st) (short_buffer old t)
  answer-told = rw leaves.answer (written-told st old t)

  pub answer-seven : (number_of st ≡ 7 → ⊥) → ((told a).number ≡ 7)
      ↔ (((told st).number ≡ 0) × (length old < length t))
  answer-seven other = let e = ap (λ (x : Told). x.number) answer-told in rw e (seven st old t other)

-- the same where the status is that of a reader's answer
pub of-answer : {A : Type 0} (x : Checked A) {t old new : List ℕ} {a : Checked ℕ} → Leaves (status_of x) t old new a
    → told a ≡ or_else (told x) (short_buffer old t)
of-answer (Ok x) leaves = answer-told leaves
of-answer (Err r) leaves = answer-told leaves

pub seven-exactly : {A : Type 0} (x : Checked A) {t old new : List ℕ} {a : Checked ℕ} → Leaves (status_of x) t old new a
    → (number_of x ≡ 7 → ⊥) → ((told a).number ≡ 7) ↔ (((told x).number ≡ 0) × (length old < length t))
seven-exactly (Ok x) leaves other = answer-seven leaves other
seven-exactly (Err r) leaves other = answer-seven leaves other
