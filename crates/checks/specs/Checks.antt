-- The checks of a job's values. Document 01: "lines are taken in order and the first bad line decides; in one line 2
-- comes before the others, then 3, then 4, then 5 or 6", and "values handed over without text get the same checks in
-- the same line order".
-- Each kind of line has its check, over values; the text's reader has the same.
use Rattle.std.specs.Prelude.{ℕ, Bool, List, leb, get_or, ℤ, pos, Ok}
use Rattle.sizes.specs.Sizes.{n_max, steps_max, number_max, end_max, entry_max}
use Rattle.lists.specs.Loops.{all_b}
use Rattle.faults.specs.Checks.{bad_unless, first_of, on_line, and_then, lines_of}
use Rattle.jobs.specs.declared.Kind.{Kind}
use Rattle.jobs.specs.declared.Equation.{Equation}
use Rattle.jobs.specs.declared.Row.{Row}
use Rattle.jobs.specs.declared.Job.{Job}
use Rattle.jobs.specs.declared.JobLine.{JobLine}
use Rattle.faults.specs.declared.Fault.{Fault}
use Rattle.faults.specs.Checked.{Finding, Status}
use Rattle.jobs.specs.Lines.{job_number}
use Rattle.jobs.specs.Places.{equation_at, row_at}
use Rattle.term_checks.specs.Ranges.{one_to, is_within, all_within, all_ordered}
use Rattle.term_checks.specs.Terms.{good_coefs, good_terms}

-- "n: 1 to" 6, since P10
abbrev pub good_unknowns : ℕ → Bool
good_unknowns n = one_to n_max n

-- "Box ends: -262,144 to 262,144"
abbrev pub good_ends : List ℤ → ℕ → Bool
good_ends xs n = all_within xs n (pos end_max)

-- "Coefficients, matrix entries, right sides and entries of the inverse: -4,194,304 to 4,194,304"
abbrev pub good_entries : List ℤ → ℕ → Bool
good_entries xs n = all_within xs n (pos entry_max)

unfoldable pub good_matrix : List Row → ℕ → Bool
good_matrix rows n = all_b n (λ i. good_entries (row_at rows i) n)

-- ---- what is found on each line

-- "Job number: 0 to 999,999,999"
unfoldable pub number_check : ℕ → Finding
number_check number = bad_unless (leb number number_max) Fault.Beyond

unfoldable pub unknowns_check : ℕ → Finding
unknowns_check n = bad_unless (good_unknowns n) Fault.Unknowns

-- document 02, P2: "9 for .. any pin not 1 to n"
abbrev pub good_pin : ℕ → ℕ → Bool
good_pin n pin = one_to n pin

-- "In values handed over without text, a pin equal to n means the last and is accepted; other kinds ignore it."
unfoldable pub pin_check : Kind → ℕ → ℕ → Finding
pin_check Kind.Poly n pin = Ok tt
pin_check Kind.Linear n pin = Ok tt
pin_check Kind.Eigen n pin = bad_unless (good_pin n pin) Fault.Pin

unfoldable pub low_check : ℕ → List ℤ → Finding
low_check n lo = bad_unless (good_ends lo n) Fault.Beyond

-- "Fault 5 belongs to the `hi` line"
unfoldable pub high_check : ℕ → List ℤ → List ℤ → Finding
high_check n lo hi = first_of (bad_unless (good_ends hi n) Fault.Beyond)
    (bad_unless (all_ordered lo hi n) Fault.Crossed)

unfoldable pub inverse_check : ℕ → List Row → Finding
inverse_check n inv = bad_unless (good_matrix inv n) Fault.Beyond

-- "Steps: 0 to 1,000"
unfoldable pub steps_check : ℕ → Finding
steps_check steps = bad_unless (leb steps steps_max) Fault.Steps

-- an `eq` line of a polynomial job
unfoldable pub equation_check : ℕ → Equation → Finding
equation_check n q = first_of (bad_unless (good_coefs q) Fault.Beyond) (bad_unless (good_terms q n) Fault.Terms)

-- a `row` line of an eigenpair
unfoldable pub row_check : ℕ → List ℤ → Finding
row_check n row = bad_unless (good_entries row n) Fault.Beyond

-- a `row` line of a linear job, "the right side last"
unfoldable pub sided_check : ℕ → List ℤ → ℤ → Finding
sided_check n row right = first_of (row_check n row) (bad_unless (is_within right (pos entry_max)) Fault.Beyond)

-- line i of the system
unfoldable pub system_check : Kind → Job → ℕ → Finding
system_check Kind.Poly j i = equation_check j.head.n (equation_at j.system.eqs i)
system_check Kind.Linear j i = sided_check j.head.n (row_at j.system.rows i) (get_or j.system.right i (pos 0))
system_check Kind.Eigen j i = row_check j.head.n (row_at j.system.rows i)

-- the kind is one of three, so nothing can be wrong with its line
unfoldable pub line_check : JobLine → Job → Finding
line_check JobLine.Number j = number_check j.head.number
line_check JobLine.Kind j = Ok tt
line_check JobLine.Unknowns j = unknowns_check j.head.n
line_check JobLine.Pin j = pin_check j.head.kind j.head.n j.head.pin
line_check JobLine.Lo j = low_check j.head.n j.ends.lo
line_check JobLine.Hi j = high_check j.head.n j.ends.lo j.ends.hi
line_check JobLine.Inv j = inverse_check j.head.n j.inv
line_check JobLine.Steps j = steps_check j.steps
line_check (JobLine.System i) j = system_check j.head.kind j i
line_check JobLine.End j = Ok tt

-- ---- line after line

unfoldable pub job_line_status : JobLine → Job → Status
job_line_status k j = on_line (line_check k j) (job_number k j.head)

-- "Order: job, kind, n", and the pin after n
unfoldable pub head_lines : Job → Status
head_lines j =
    and_then (job_line_status JobLine.Number j)
    (and_then (job_line_status JobLine.Kind j)
    (and_then (job_line_status JobLine.Unknowns j)
    (job_line_status JobLine.Pin j)))

-- "then n lines"
unfoldable pub system_lines : Job → Status
system_lines j = lines_of j.head.n (λ i. job_line_status (JobLine.System i) j)

-- "lo, hi, inv, steps", and the system
unfoldable pub body_lines : Job → Status
body_lines j =
    and_then (job_line_status JobLine.Lo j)
    (and_then (job_line_status JobLine.Hi j)
    (and_then (job_line_status JobLine.Inv j)
    (and_then (job_line_status JobLine.Steps j)
    (system_lines j))))

unfoldable pub check_job : Job → Status
check_job j = and_then (head_lines j) (body_lines j)
