-- A table of faults tells what the checks of values say.
use mathlib.Core.Path.{◌≡◌, refl, ◌∙◌}
use mathlib.Core.Bool.{Bool, true, false, not}
use mathlib.Core.List.{List, [], ◌∷◌, ◌++◌, append_assoc}
use Prim.Native.Nat.{ℕ, zero, suc, ◌+◌, ◌≤◌}
use native.Mathlib.Omega.{arith}
use lib.Dec.{eqb, leb, ltb}
use lib.IntN.{ℤ, pos}
use borrow.Author.Tests.{ltb-true, ltb-false, eqb-true, eqb-false, le-leb, lt-leb}
use Rattle.sizes.specs.Sizes.{n_max, steps_max, number_max, visit_max, end_max, image_max}
use Rattle.faults.specs.Words.{fault_number}
use Rattle.faults.specs.Checks.{bad_unless, on_line, and_then, lines_of}
use Rattle.faults.proofs.Laws.{line_first, fine-skips, then-assoc}
use Rattle.jobs.specs.Lines.{pin_lines, system_number}
use Rattle.checks.specs.Checks.{number_check, unknowns_check, pin_check, low_check, high_check, inverse_check}
use Rattle.checks.specs.Checks.{steps_check}
use Rattle.checks.specs.Checks.{equation_check, row_check, sided_check, system_check, line_check}
use Rattle.checks.specs.Checks.{job_line_status, system_lines, head_lines, body_lines, check_job}
use Rattle.checks.specs.CheckResult.{visit_check, count_check, counted_check, result_check, result_line_status}
use Rattle.checks.specs.CheckResult.{check_result}
use Rattle.faults.specs.declared.Fault.{Fault}
use Rattle.halving.specs.Halving.{depth_status, room_status, halve_status}
use Rattle.one_step.specs.OneStep.{ends_check, image_status, decide_check, decide_status}
use Rattle.jobs.specs.declared.Kind.{Kind}
use Rattle.jobs.specs.declared.Ends.{Ends}
use Rattle.jobs.specs.declared.Job.{Job}
use Rattle.jobs.specs.declared.Result.{Result}
use Rattle.faults.specs.Checked.{Status}
use Rattle.entries.specs.Numbers.{Told, told, Row, first_given, each_line, system_rows, job_rows, result_rows}
use Rattle.entries.specs.Numbers.{pin_rows, box_rows, ends_rows, image_rows, decide_rows, halve_rows}
use Rattle.std.specs.Prelude.{Ok, Err}

-- what a status tells before the rest
abbrev pub before : Status → Told → Told
before (Ok tt) rest = rest
before (Err r) rest = told {A = Unit {0}} (Err r)

-- the rows tell of the status st, whatever rows come after them
pub record Tells (rows : List Row) (st : Status) : Type 0 where
  pub all : (rest : List Row) → first_given (rows ++ rest) ≡ before st (first_given rest)

abbrev at : ℕ → Fault → Bool → Row
at line f given = record { line = line; number = fault_number f; given = given }

tell_none : Tells [] (Ok tt)
tell_none = record { all = λ rest. refl }

-- one row more in front
tell-row : (b : Bool) (f : Fault) (line : ℕ) {rows : List Row} {st : Status} → Tells rows st
    → Tells (at line f (not b) ∷ rows) (and_then (on_line (bad_unless b f) line) st)
unfolding and_then on_line bad_unless
tell-row true f line h = record { all = h.all }
tell-row false f line h = record { all = λ rest. refl }

-- an only row
tell-one : (b : Bool) (f : Fault) (line : ℕ) → Tells (at line f (not b) ∷ []) (on_line (bad_unless b f) line)
unfolding on_line bad_unless
tell-one true f line = record { all = λ rest. refl }
tell-one false f line = record { all = λ rest. refl }

tell-both : {xs ys : List Row} {s t : Status} → Tells xs s → Tells ys t → Tells (xs ++ ys) (and_then s t)
unfolding and_then
tell-both {xs} {ys} {s} {t} h g =
    record { all = λ rest. rw (append_assoc xs ys rest) (h.all (ys ++ rest) ∙ by s rest) }
  where
    by : (s : Status) (rest : List Row) → before s (first_given (ys ++ rest)) ≡ before (and_then s t) (first_given rest)
    by (Ok tt) rest = g.all rest
    by (Err r) rest = refl

tell-lines : (n : ℕ) (f : ℕ → List Row) (g : ℕ → Status) → ((i : ℕ) → Tells (f i) (g i))
    → Tells (each_line n f) (lines_of n g)
unfolding lines_of
tell-lines zero f g h = tell_none
tell-lines (suc n) f g h = tell-both (tell-lines n f g h) (h n)

module _ (j : Job) where
  system-line : (k : Kind) (i : ℕ) → Tells (system_rows k j i) (on_line (system_check k j i) (system_number j.head i))
  unfolding system_check equation_check sided_check row_check
  system-line Kind.Poly i =
      let m = system_number j.head i in rw (line_first) (tell-row _ Fault.Beyond m (tell-one _ Fault.Terms m))
  system-line Kind.Linear i =
      let m = system_number j.head i in rw (line_first) (tell-row _ Fault.Beyond m (tell-one _ Fault.Beyond m))
  system-line Kind.Eigen i = tell-one _ Fault.Beyond (system_number j.head i)

  pin-line : (k : Kind) → Tells (pin_rows k j) (on_line (pin_check k j.head.n j.head.pin) 4)
  unfolding pin_check on_line
  pin-line Kind.Poly = tell_none
  pin-line Kind.Linear = tell_none
  pin-line Kind.Eigen = tell-one _ Fault.Pin 4

  box-lines : Tells (box_rows j) (body_lines j)
  unfolding body_lines system_lines job_line_status line_check low_check high_check inverse_check steps_check
  box-lines =
      let p = pin_lines j.head in
      rw (line_first, then-assoc)
      (tell-row _ Fault.Beyond (4 + p) (tell-row _ Fault.Beyond (5 + p) (tell-row _ Fault.Crossed (5 + p)
      (tell-row _ Fault.Beyond (6 + p) (tell-row _ Fault.Steps (7 + p)
      (tell-lines j.head.n (system_rows j.head.kind j) _ (system-line j.head.kind)))))))

  pub job-tells : Tells (job_rows j) (check_job j)
  unfolding check_job head_lines job_line_status line_check number_check unknowns_check
  job-tells =
      rw (fine-skips, then-assoc, then-assoc)
      (tell-row _ Fault.Beyond 1 (tell-row _ Fault.Unknowns 3 (tell-both (pin-line j.head.kind) box-lines)))

-- a test and its other side
over : (a b : ℕ) → not (leb a b) ≡ ltb b a
over a b = by (ltb b a) refl
  where
    by : (t : Bool) → ltb b a ≡ t → not (leb a b) ≡ t
    by true e = rw (lt-leb a b (ltb-true b a e))
    by false e = rw (le-leb a b (ltb-false b a e))

none : (n : ℕ) → not (leb 1 n) ≡ eqb n 0
none n = by (eqb n 0) refl
  where
    by : (t : Bool) → eqb n 0 ≡ t → not (leb 1 n) ≡ t
    by true e = rw (lt-leb 1 n (omega (arith, eqb-true n 0 e)))
    by false e = rw (le-leb 1 n (some (eqb-false n 0 e)))
      where
        some : (n ≡ 0 → ⊥) → 1 ≤ n
        some h = omega arith

pub result-tells : (r : Result) → Tells (result_rows r) (check_result r)
unfolding check_result result_line_status result_check visit_check counted_check count_check number_check steps_check
    low_check high_check
result-tells r =
    rw (
      ← over r.number number_max,
      ← over r.visit visit_max,
      ← over r.steps steps_max,
      ← none r.n,
      ← over r.n n_max,
    )
    (rw (fine-skips, line_first, line_first, line_first, then-assoc, then-assoc)
    (tell-row _ Fault.Beyond 1 (tell-row _ Fault.Beyond 2 (tell-row _ Fault.Steps 4
    (tell-row _ Fault.Spelling 5 (tell-row _ Fault.Unknowns 5 (tell-row _ Fault.Beyond 5
    (tell-row _ Fault.Beyond 6 (tell-one _ Fault.Crossed 6)))))))))

-- ---- a box and an image handed in
ends-tells : (n : ℕ) (most : ℤ) (e : Ends) → Tells (ends_rows n most e) (on_line (ends_check n most e) 0)
unfolding ends_check
ends-tells n most e =
    rw (line_first, line_first)
    (tell-row _ Fault.Beyond 0 (tell-row _ Fault.Beyond 0 (tell-one _ Fault.Crossed 0)))

pub image-tells : (j : Job) (x : Ends) → Tells (image_rows j x) (image_status j x)
unfolding image_status
image-tells j x = tell-both (job-tells j) (ends-tells j.head.n (pos end_max) x)

pub decide-tells : (n : ℕ) (x k : Ends) → Tells (decide_rows n x k) (decide_status n x k)
unfolding decide_check unknowns_check
decide-tells n x k =
    rw (line_first, line_first)
    (tell-row _ Fault.Unknowns 0 (tell-both (ends-tells n (pos end_max) x) (ends-tells n (pos image_max) k)))

pub halve-tells : (j : Job) (depth : ℤ) (room : ℕ) → Tells (halve_rows j depth room) (halve_status j depth room)
unfolding halve_status depth_status room_status
halve-tells j depth room =
    tell-both (job-tells j) (tell-row _ Fault.Steps 0 (tell-one _ Fault.ShortBuffer 0))
