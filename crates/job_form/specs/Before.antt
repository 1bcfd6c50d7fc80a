-- The job text as document 01 has it, without a pin line: after `n` comes `lo`. What each line says, its number and the
-- faults are those of `job_form_of`.
use Rattle.std.specs.Prelude.{ℕ, ◌≡◌, List, [], false, get_or}
use Rattle.digits.specs.Bytes.{line_feed}
use Rattle.text.specs.Cut.{pieces}
use Rattle.text.specs.Keys.{starts_with}
use Rattle.text.specs.Words.{pin_key}
use Rattle.faults.specs.declared.Fault.{Fault}
use Rattle.reading.specs.Results.{after}
use Rattle.reading.specs.Lines.{Next, Form, read}
use Rattle.jobs.specs.declared.Job.{Job}
use Rattle.jobs.specs.declared.JobLine.{JobLine}
use Rattle.jobs.specs.Parts.{with_unknowns}
use Rattle.lines.specs.Answered.{answered}
use Rattle.lines.specs.Lines.{unknowns_of}
use Rattle.job_form.specs.JobForm.{job_says, job_form_of}
use Rattle.faults.specs.Checked.{Found, Checked}

-- "Order: job, kind, n, lo, hi, inv, steps, then n lines."
unfoldable pub says_before : JobLine → Job → List ℕ → Found (Next JobLine Job)
says_before JobLine.Number j l = job_says JobLine.Number j l
says_before JobLine.Kind j l = job_says JobLine.Kind j l
says_before JobLine.Unknowns j l = after (unknowns_of l) (λ n. record { kind = JobLine.Lo; value = with_unknowns j n })
says_before JobLine.Pin j l = job_says JobLine.Pin j l
says_before JobLine.Lo j l = job_says JobLine.Lo j l
says_before JobLine.Hi j l = job_says JobLine.Hi j l
says_before JobLine.Inv j l = job_says JobLine.Inv j l
says_before JobLine.Steps j l = job_says JobLine.Steps j l
says_before (JobLine.System i) j l = job_says (JobLine.System i) j l
says_before JobLine.End j l = job_says JobLine.End j l

abbrev pub form_before : Form Fault JobLine Job
form_before = record {
  first = job_form_of.first;
  none = job_form_of.none;
  last = job_form_of.last;
  number = job_form_of.number;
  says = says_before;
  most = job_form_of.most;
  long = job_form_of.long;
  odd = job_form_of.odd;
}

unfoldable pub read_before : List ℕ → Checked Job
read_before t = answered (read form_before t)

-- a text without a pin line: its fourth line, if it has one, begins otherwise
pub record Unpinned (t : List ℕ) : Type 0 where
  pub fourth : starts_with pin_key (get_or (pieces line_feed t) 3 []) ≡ false
