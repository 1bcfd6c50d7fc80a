-- The parts of a job's text, and what their writers rely on.
use Rattle.std.specs.Prelude.{ℕ, ◌+◌, ◌≤◌, ◌<◌, List, [], ◌∷◌, cond, length, ℤ}
use Rattle.sizes.specs.Sizes.{n_max, entry_max, text_max}
use Rattle.integers.specs.Ranges.{Within}
use Rattle.jobs.specs.Places.{row_at}
use Rattle.checks.specs.Accepted.{AllWithin, Accepted}
use Rattle.jobs.specs.declared.Row.{Row}
use Rattle.jobs.specs.declared.Job.{Job}
use Rattle.jobs.specs.declared.JobLine.{JobLine}
use Rattle.reading.specs.Lines.{bytes}
use Rattle.reading.specs.Shows.{lines_of}
use Rattle.text.specs.Words.{pin_key}
use Rattle.lines.specs.Texts.{count_text}
use Rattle.job_form.specs.JobBytes.{pin_written, job_shows}

-- the lines of these kinds
abbrev pub lines_bytes : Job → List JobLine → List ℕ
lines_bytes j ks = bytes (lines_of job_shows j ks)

-- "pin equal to n is never written"
abbrev pub pin_texts : Job → List (List ℕ)
pin_texts j = cond (pin_written j) (count_text pin_key j.head.pin ∷ []) []

-- "lo, hi, inv, steps"
abbrev pub body_kinds : List JobLine
body_kinds = JobLine.Lo ∷ JobLine.Hi ∷ JobLine.Inv ∷ JobLine.Steps ∷ []

-- ---- what the writers rely on

-- the lines of these kinds, from `at` on
pub record PartFits (at : ℕ) (j : Job) (ks : List JobLine) : Type 0 where
  pub accepted : Accepted j
  pub room : at + length (lines_bytes j ks) ≤ text_max

-- the pin's line, if there is one
pub record PinFits (at : ℕ) (j : Job) : Type 0 where
  pub accepted : Accepted j
  pub room : at ≤ text_max

-- a line of n + 1 numbers
pub record SidedFits (at : ℕ) (row : List ℤ) (n : ℕ) (right : ℤ) : Type 0 where
  pub some : 1 ≤ n
  pub few : n ≤ n_max
  pub room : at ≤ text_max
  pub left : AllWithin row n entry_max
  pub side : Within right entry_max

-- the inverse's line
pub record MatrixFits (at : ℕ) (rows : List Row) (n : ℕ) : Type 0 where
  pub some : 1 ≤ n
  pub few : n ≤ n_max
  pub room : at ≤ text_max
  pub entries : (i : ℕ) → i < n → AllWithin (row_at rows i) n entry_max

-- line i of the system
pub record LineFits (at : ℕ) (j : Job) (i : ℕ) : Type 0 where
  pub accepted : Accepted j
  pub live : i < j.head.n
  pub room : at ≤ text_max
