-- How a job is written, what is read of it before each line, and what its checks find. Document 01: "Order: job, kind,
-- n, lo, hi, inv, steps, then n lines."
use Rattle.std.specs.Prelude.{ℕ, zero, suc, ◌<◌, ◌^◌, List, [], ◌∷◌, ◌++◌, Bool, cond, get_or, ltb, pos, Ok}
use Rattle.faults.specs.declared.Fault.{Fault}
use Rattle.faults.specs.Checked.{Finding}
use Rattle.faults.specs.Checks.{first_of}
use Rattle.digits.specs.Number.{digits_max}
use Rattle.text.specs.Lists.{Small}
use Rattle.text.specs.Words.{job_key, n_key, pin_key, lo_key, hi_key, steps_key, row_key}
use Rattle.reading.specs.Lines.{bytes}
use Rattle.reading.specs.NumberLines.{placed}
use Rattle.reading.specs.Shows.{Shows, shown}
use Rattle.term_write.specs.ShowTerms.{equation_text}
use Rattle.term_round.specs.Spelled.{SpelledEquation}
use Rattle.jobs.specs.Places.{row_at, equation_at}
use Rattle.jobs.specs.Lines.{pin_stands, after_n}
use Rattle.checks.specs.Checks.{line_check}
use Rattle.jobs.specs.declared.Kind.{Kind}
use Rattle.jobs.specs.declared.Job.{Job}
use Rattle.jobs.specs.declared.JobLine.{JobLine}
use Rattle.lines.specs.Texts.{count_text, kind_text, row_text, matrix_list, inverse_text, sided_text}
use Rattle.job_form.specs.JobForm.{after_system}
use Rattle.job_form.specs.Live.{job_upto}

-- line i of the system: "A `poly` job has `eq` lines", "A `linear` job has `row` lines of n + 1 numbers, the right side
-- last", "an `eigen` job has `row` lines of n"
unfoldable pub system_text : Kind → Job → ℕ → List ℕ
system_text Kind.Poly j i = equation_text j.head.n (equation_at j.system.eqs i)
system_text Kind.Linear j i =
    sided_text j.head.n (row_at j.system.rows i) (get_or j.system.right i (pos 0))
system_text Kind.Eigen j i = row_text row_key j.head.n (row_at j.system.rows i)

abbrev pub low_text : Job → List ℕ
low_text j = row_text lo_key j.head.n j.ends.lo

-- "pin equal to n is never written"
abbrev pub pin_written : Job → Bool
pin_written j = pin_stands j.head.kind j.head.n j.head.pin

abbrev pub job_line : JobLine → Job → List ℕ
job_line JobLine.Number j = count_text job_key j.head.number
job_line JobLine.Kind j = kind_text j.head.kind
job_line JobLine.Unknowns j = count_text n_key j.head.n
job_line JobLine.Pin j = cond (pin_written j) (count_text pin_key j.head.pin) (low_text j)
job_line JobLine.Lo j = low_text j
job_line JobLine.Hi j = row_text hi_key j.head.n j.ends.hi
job_line JobLine.Inv j = inverse_text j.head.n j.inv
job_line JobLine.Steps j = count_text steps_key j.steps
job_line (JobLine.System i) j = system_text j.head.kind j i
job_line JobLine.End j = []

-- the first m lines of a system
unfoldable pub system_kinds : ℕ → List JobLine
system_kinds zero = []
system_kinds (suc m) = system_kinds m ++ (JobLine.System m ∷ [])

abbrev pub head_kinds : List JobLine
head_kinds = JobLine.Number ∷ JobLine.Kind ∷ JobLine.Unknowns ∷ []

-- the lines up to lo, which stands after n or, where the pin is written, after that
abbrev pub low_kinds : Job → List JobLine
low_kinds j = head_kinds ++ (after_n j.head.kind ∷ cond (pin_written j) (JobLine.Lo ∷ []) [])

-- "hi, inv, steps", each after those before it
abbrev pub high_kinds : Job → List JobLine
high_kinds j = low_kinds j ++ (JobLine.Hi ∷ [])

abbrev pub inverse_kinds : Job → List JobLine
inverse_kinds j = high_kinds j ++ (JobLine.Inv ∷ [])

abbrev pub box_kinds : Job → List JobLine
box_kinds j = inverse_kinds j ++ (JobLine.Steps ∷ [])

-- the kinds of the lines before one of some kind
abbrev pub job_prior : JobLine → Job → List JobLine
job_prior JobLine.Number j = []
job_prior JobLine.Kind j = JobLine.Number ∷ []
job_prior JobLine.Unknowns j = JobLine.Number ∷ JobLine.Kind ∷ []
job_prior JobLine.Pin j = head_kinds
job_prior JobLine.Lo j = head_kinds ++ cond (pin_written j) (JobLine.Pin ∷ []) []
job_prior JobLine.Hi j = low_kinds j
job_prior JobLine.Inv j = high_kinds j
job_prior JobLine.Steps j = inverse_kinds j
job_prior (JobLine.System i) j = box_kinds j ++ system_kinds i
job_prior JobLine.End j = box_kinds j ++ system_kinds j.head.n

-- "then n lines": the first of them
unfoldable pub first_system : ℕ → JobLine
first_system n = cond (ltb 0 n) (JobLine.System 0) JobLine.End

abbrev pub job_next : JobLine → Job → JobLine
job_next JobLine.Number j = JobLine.Kind
job_next JobLine.Kind j = JobLine.Unknowns
job_next JobLine.Unknowns j = after_n j.head.kind
job_next JobLine.Pin j = cond (pin_written j) JobLine.Lo JobLine.Hi
job_next JobLine.Lo j = JobLine.Hi
job_next JobLine.Hi j = JobLine.Inv
job_next JobLine.Inv j = JobLine.Steps
job_next JobLine.Steps j = first_system j.head.n
job_next (JobLine.System i) j = after_system i j.head.n
job_next JobLine.End j = JobLine.End

-- where an eigenpair's pin is not written, its lo stands after n, and has its check there
unfoldable pub shown_check : JobLine → Job → Finding
shown_check JobLine.Number j = line_check JobLine.Number j
shown_check JobLine.Kind j = line_check JobLine.Kind j
shown_check JobLine.Unknowns j = line_check JobLine.Unknowns j
shown_check JobLine.Pin j =
    first_of (line_check JobLine.Pin j) (cond (pin_written j) (Ok tt) (line_check JobLine.Lo j))
shown_check JobLine.Lo j = line_check JobLine.Lo j
shown_check JobLine.Hi j = line_check JobLine.Hi j
shown_check JobLine.Inv j = line_check JobLine.Inv j
shown_check JobLine.Steps j = line_check JobLine.Steps j
shown_check (JobLine.System i) j = line_check (JobLine.System i) j
shown_check JobLine.End j = Ok tt

abbrev pub job_shows : Shows Fault JobLine Job
job_shows = record {
  line = job_line;
  prior = job_prior;
  next = job_next;
  end = JobLine.End;
  check = shown_check;
  upto = job_upto;
}

abbrev pub job_bytes : Job → List ℕ
job_bytes j = bytes (shown job_shows j)

-- ---- what can be spelled

-- line i of the system: each number has at most nine digits, each exponent one
abbrev pub SpelledLine : Kind → Job → ℕ → Type 0
SpelledLine Kind.Poly j i = SpelledEquation j.head.n (equation_at j.system.eqs i)
SpelledLine Kind.Linear j i =
    Small (placed j.head.n j.head.n (row_at j.system.rows i) ++ (get_or j.system.right i (pos 0) ∷ []))
SpelledLine Kind.Eigen j i = Small (placed j.head.n j.head.n (row_at j.system.rows i))

pub record Spelled (j : Job) : Type 0 where
  pub number : j.head.number < 10 ^ digits_max
  -- "`n` is one digit"
  pub unknowns : j.head.n < 10
  pub pin : j.head.pin < 10 ^ digits_max
  pub low : Small (placed j.head.n j.head.n j.ends.lo)
  pub high : Small (placed j.head.n j.head.n j.ends.hi)
  pub inverse : Small (matrix_list j.inv j.head.n)
  pub steps : j.steps < 10 ^ digits_max
  pub system : (i : ℕ) → i < j.head.n → SpelledLine j.head.kind j i
