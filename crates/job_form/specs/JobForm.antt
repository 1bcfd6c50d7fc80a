-- What a job text means: document 01, "The job text and the result text". "Order: job, kind, n, lo, hi, inv, steps,
-- then n lines." Document 02, P2: a line `pin=` after `n`. What each kind of line says stands in crate lines, its
-- number in crate jobs.
use Rattle.std.specs.Prelude.{ℕ, ◌+◌, List, Bool, true, false, cond, ltb}
use Rattle.sizes.specs.Sizes.{text_max}
use Rattle.text.specs.Keys.{starts_with}
use Rattle.text.specs.Words.{pin_key}
use Rattle.faults.specs.declared.Fault.{Fault}
use Rattle.faults.specs.Checked.{Found, Checked}
use Rattle.reading.specs.Results.{after}
use Rattle.reading.specs.Lines.{Next, Form, read}
use Rattle.jobs.specs.declared.Kind.{Kind}
use Rattle.jobs.specs.declared.Job.{Job}
use Rattle.jobs.specs.declared.JobLine.{JobLine}
use Rattle.jobs.specs.Lines.{after_n, job_number}
use Rattle.jobs.specs.Zero.{no_job}
use Rattle.lines.specs.Answered.{answered}
use Rattle.lines.specs.Lines.{number_of, kind_of, unknowns_of, pin_of, low_of, high_of, inverse_of, steps_of}
use Rattle.lines.specs.Lines.{equation_of, row_of, sided_of, misspelled}
use Rattle.lines.specs.declared.Sided.{Sided}
use Rattle.jobs.specs.Parts.{with_number, with_kind, with_unknowns, with_pin, with_lo, with_hi, with_inverse}
use Rattle.jobs.specs.Parts.{with_steps}
use Rattle.jobs.specs.Parts.{with_equation, with_row, with_side}

-- a line that leaves what it says in the job, and the kind of the next one
abbrev to : {A : Type 0} → JobLine → (A → Job) → Found A → Found (Next JobLine Job)
to k put said = after said (λ x. record { kind = k; value = put x })

abbrev pub with_sided : Job → ℕ → Sided → Job
with_sided j i s = with_side (with_row j i s.row) i s.side

-- "then n lines": what comes after line i of the system, counted from 0
unfoldable pub after_system : ℕ → ℕ → JobLine
after_system i n = cond (ltb (i + 1) n) (JobLine.System (i + 1)) JobLine.End

-- "A `poly` job has `eq` lines", "A `linear` job has `row` lines of n + 1 numbers, the right side last", "an `eigen`
-- job has `row` lines of n"
unfoldable pub system_says : Kind → ℕ → Job → List ℕ → Found (Next JobLine Job)
system_says Kind.Poly i j l = to (after_system i j.head.n) (with_equation j i) (equation_of j.head.n l)
system_says Kind.Linear i j l = to (after_system i j.head.n) (with_sided j i) (sided_of j.head.n l)
system_says Kind.Eigen i j l = to (after_system i j.head.n) (with_row j i) (row_of j.head.n l)

abbrev pub low_says : Job → List ℕ → Found (Next JobLine Job)
low_says j l = to JobLine.Hi (with_lo j) (low_of j.head.n l)

-- "Eigen jobs, and no others, get a line `pin=` after `n`"; "Without the line the last is pinned", and lo stands there
unfoldable pub job_says : JobLine → Job → List ℕ → Found (Next JobLine Job)
job_says JobLine.Number j l = to JobLine.Kind (with_number j) (number_of l)
job_says JobLine.Kind j l = to JobLine.Unknowns (with_kind j) (kind_of l)
job_says JobLine.Unknowns j l = to (after_n j.head.kind) (with_unknowns j) (unknowns_of l)
job_says JobLine.Pin j l = cond (starts_with pin_key l) (to JobLine.Lo (with_pin j) (pin_of j.head.n l)) (low_says j l)
job_says JobLine.Lo j l = low_says j l
job_says JobLine.Hi j l = to JobLine.Inv (with_hi j) (high_of j.head.n j.ends.lo l)
job_says JobLine.Inv j l = to JobLine.Steps (with_inverse j) (inverse_of j.head.n l)
job_says JobLine.Steps j l = to (JobLine.System 0) (with_steps j) (steps_of l)
job_says (JobLine.System i) j l = system_says j.head.kind i j l
job_says JobLine.End j l = misspelled

-- whether no line is left
abbrev pub job_end : JobLine → Bool
job_end JobLine.Number = false
job_end JobLine.Kind = false
job_end JobLine.Unknowns = false
job_end JobLine.Pin = false
job_end JobLine.Lo = false
job_end JobLine.Hi = false
job_end JobLine.Inv = false
job_end JobLine.Steps = false
job_end (JobLine.System i) = false
job_end JobLine.End = true

abbrev pub job_form_of : Form Fault JobLine Job
job_form_of = record {
  first = JobLine.Number;
  none = no_job;
  last = job_end;
  number = λ k j. job_number k j.head;
  says = job_says;
  most = text_max;
  long = Fault.LongText;
  odd = Fault.Spelling;
}

unfoldable pub read_job : List ℕ → Checked Job
read_job t = answered (read job_form_of t)
