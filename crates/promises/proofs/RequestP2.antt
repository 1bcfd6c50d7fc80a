-- Request P2, "An eigenpair we were told wasn't there". Only statements, each proved by one line from the files beside
-- this one. `after_n` is the kind of the line after `n`: the pin's in an eigenpair's job, lo in the others. Demands 2
-- and 3 "read over the pinned equations": `formula_num` and `Eigenpair`, which they are stated with, take the pin.
use mathlib.Core.Path.{◌≡◌, ap}
use mathlib.Core.List.{List, []}
use mathlib.Core.Bool.{true}
use Prim.Native.Nat.{ℕ, suc, ◌-◌, ◌≤◌, ◌<◌}
use lib.IntN.{ℤ, pos, ◌+ℤ◌, ◌-ℤ◌, ◌*ℤ◌}
use lib.ListN.{length, get_or}
use Rattle.sizes.specs.Sizes.{text_max, degree_max}
use Rattle.integers.specs.Sums.{sum_to}
use Rattle.intervals.specs.Interval.{mark}
use Rattle.digits.specs.Number.{read_number}
use Rattle.text.specs.Keys.{starts_with, body_of}
use Rattle.text.specs.Words.{pin_key}
use Rattle.faults.specs.declared.Fault.{Fault}
use Rattle.faults.specs.Checked.{status_of}
use Rattle.reading.specs.Shows.{shown}
use Rattle.jobs.specs.declared.Kind.{Kind}
use Rattle.jobs.specs.declared.Head.{Head}
use Rattle.jobs.specs.declared.Job.{Job}
use Rattle.jobs.specs.declared.JobLine.{JobLine}
use Rattle.jobs.specs.declared.Verdict.{Verdict}
use Rattle.jobs.specs.Lines.{pin_lines, after_n, job_number}
use Rattle.jobs.specs.Parts.{last_pin, with_pin}
use Rattle.checks.specs.Answered.{job_in}
use Rattle.checks.specs.Checks.{pin_check, check_job}
use Rattle.checks.proofs.AcceptedLaws.{check_done}
use Rattle.jobs.proofs.LineLaws.{after-n-fourth}
use Rattle.lines.specs.Lines.{pin_of}
use Rattle.slopes.specs.Fractions.{units_of, power, equation_num}
use Rattle.systems.specs.Kinds.{pinned, row_of, equation_of}
use Rattle.systems.specs.Formulas.{coordinate, eigen_num, formula_num}
use Rattle.systems.proofs.Formulas as formulas
use Rattle.step.specs.Values.{start_of}
use Rattle.run.specs.Job.{run_job}
use Rattle.job_form.specs.JobForm.{job_says, read_job}
use Rattle.job_form.specs.JobBytes.{low_text, job_shows, job_bytes, Spelled}
use Rattle.job_form.specs.Before.{read_before, Unpinned}
use Rattle.job_form.proofs.Fourth as fourth
use Rattle.job_form.proofs.Before as before
use Rattle.job_form.proofs.Answers as answers
use Rattle.promises.specs.Claims.{Point, Lies}
use Rattle.promises.specs.Jobs.{job_run, Eigenpair}
use Rattle.promises.specs.Pins.{pin_by}
use Rattle.promises.proofs.Pins as pins
use Rattle.promises.proofs.Demand3 as demand3
use Rattle.std.specs.Prelude.{Ok, Err}

-- "Eigen jobs, and no others, get a line `pin=` after `n`": line 4, and what it says; elsewhere such a line is 2
pub line-four : (h : Head) → job_number (after_n h.kind) h ≡ 4
line-four = after-n-fourth

-- "Refusals: 9 for a written pin of n, or any pin not 1 to n, on its own line, after 2."
pub pin-says : (n : ℕ) (l : List ℕ) → pin_of n l ≡ pin_by n (read_number (body_of pin_key l))
pin-says = pins.pin-says

pub no-others : (j : Job) (l : List ℕ) → after_n j.head.kind ≡ JobLine.Lo → starts_with pin_key l ≡ true
    → job_says (after_n j.head.kind) j l ≡ Err Fault.Spelling
no-others = pins.pin-elsewhere

-- the lines after it are one further on, and only then
pub lines-shifted : (h : Head) → h.kind ≡ Kind.Eigen → (h.pin ≡ h.n → ⊥) → pin_lines h ≡ 1
lines-shifted = pins.shift_one

pub lines-unshifted : (h : Head) → (h.kind ≡ Kind.Eigen → h.pin ≡ h.n) → pin_lines h ≡ 0
lines-unshifted = pins.shift_none

-- "coordinate pin is 1"
pub pin-is-one : (j : Job) (P : ℕ → ℤ) (d : ℤ) → coordinate (pinned j) P d (pinned j) ≡ units_of d
pin-is-one j = formulas.coordinate-one (pinned j)

-- "and the eigenvalue takes its place as that unknown": the other coordinates are unknowns of their own number,
pub others-unknown : (j : Job) (P : ℕ → ℤ) (d : ℤ) {k : ℕ} → (k ≡ pinned j → ⊥) → coordinate (pinned j) P d k ≡ P k
others-unknown j P d = formulas.coordinate-other P d

-- and "at every fraction point the built equations equal these formulas exactly", whatever the pin
pub equations-equal : (j : Job) → check_job j ≡ Ok tt → (i : ℕ) → i < j.head.n → (P : ℕ → ℤ) (d : ℤ)
    → equation_num j.head.n (equation_of j i) P d ≡ formula_num j i P d
equations-equal j checked i l = let a = check_done j checked in formulas.equation-is j a.few a.pin i l

pub eigen-formula : (j : Job) → j.head.kind ≡ Kind.Eigen → (i : ℕ) (P : ℕ → ℤ) (d : ℤ)
    → formula_num j i P d ≡ eigen_num j.head.n (pinned j) (row_of j i) i P d
eigen-formula = formulas.formula-eigen

-- "Without the line the last is pinned, so old texts keep their meaning": a text without it is read as document 01 has
-- it, fault and line too,
pub old-texts : (t : List ℕ) → Unpinned t → read_job t ≡ read_before t
old-texts = before.old-read

-- with the last pinned,
pub old-pinned : (t : List ℕ) → Unpinned t → status_of (read_job t) ≡ Ok tt
    → (job_in (read_job t)).head.pin ≡ last_pin (job_in (read_job t)).head.kind (job_in (read_job t)).head.n
old-pinned = before.old-last

-- and document 01's formula: "the sum of a(i,j) x(j) over j < n, plus a(i,n), minus L x(i), where x(n) is 1"
pub old-formula : (m : ℕ) (a : ℕ → ℤ) (i : ℕ) (P : ℕ → ℤ) (d : ℤ)
    → eigen_num (suc m) m a i P d
    ≡ ((sum_to m (λ j. a j *ℤ P j) +ℤ a m *ℤ units_of d) *ℤ units_of d -ℤ pos mark *ℤ (P m *ℤ coordinate m P d i))
    *ℤ power (units_of d) (degree_max - 2)
old-formula = formulas.eigen-last

pub last-place : (j : Job) → j.head.pin ≡ j.head.n → pinned j ≡ j.head.n - 1
last-place j e = ap (λ (p : ℕ). p - 1) e

-- "pin equal to n is never written": lo is line 4 then
pub never-written : (j : Job) → j.head.pin ≡ j.head.n → get_or (shown job_shows j) 3 [] ≡ low_text j
never-written = pins.never-written

-- ""None" now reads: no fraction eigenpair in the box with that coordinate 1."
pub none-pinned : (j : Job) → check_job j ≡ Ok tt → (a : ℕ) → (job_run j a).verdict ≡ Verdict.None
    → j.head.kind ≡ Kind.Eigen → (p : Point) → Eigenpair j p → Lies j.head.n p (start_of j) → ⊥
none-pinned = demand3.none-eigen

-- "In values handed over without text, a pin equal to n means the last" (`last-place`) "and is accepted;"
pub last-accepted : (n : ℕ) → 0 < n → pin_check Kind.Eigen n n ≡ Ok tt
last-accepted = fourth.last-fine

-- "other kinds ignore it."
pub check-ignores : (j : Job) (p : ℕ) → after_n j.head.kind ≡ JobLine.Lo → check_job (with_pin j p) ≡ check_job j
check-ignores = pins.check-ignores

pub run-ignores : (j : Job) (p : ℕ) → after_n j.head.kind ≡ JobLine.Lo → run_job (with_pin j p) ≡ run_job j
run-ignores = pins.run-ignores

pub text-ignores : (j : Job) (p : ℕ) → after_n j.head.kind ≡ JobLine.Lo → job_bytes (with_pin j p) ≡ job_bytes j
text-ignores = pins.bytes-ignore

-- values and text agree in faults and lines, the shifted ones too
pub same-order : (j : Job) → Spelled j → length (job_bytes j) ≤ text_max
    → status_of (read_job (job_bytes j)) ≡ check_job j
same-order = answers.same-order
