-- The job text, both ways.
use Prim.Native.Nat.{ℕ, ◌≤◌}
use mathlib.Core.Path.{◌≡◌, refl, ap}
use mathlib.Core.List.{List}
use mathlib.Core.Logic.{◌↔◌}
use mathlib.Core.Bool.{Bool, true, false}
use lib.ListN.{length}
use Rattle.sizes.specs.Sizes.{text_max}
use Rattle.faults.specs.Checked.{status_of}
use Rattle.checks.specs.Checks.{check_job}
use Rattle.jobs.specs.declared.Job.{Job}
use Rattle.jobs.specs.declared.JobLine.{JobLine}
use Rattle.reading.specs.Lines.{Answer, read}
use Rattle.reading.specs.Shows.{Passed}
use Rattle.reading.proofs.Trips.{Laws}
use Rattle.lines.proofs.Answered.{answer-done}
use Rattle.lines.proofs.Trips as trips
use Rattle.lines.specs.Answered.{answered}
use Rattle.job_form.specs.JobForm.{job_form_of, read_job}
use Rattle.job_form.specs.JobBytes.{pin_written, job_prior, job_shows, job_bytes, Spelled}
use Rattle.job_form.specs.Live.{live}
use Rattle.job_form.proofs.Order.{ends, counted, tied}
use Rattle.job_form.proofs.Reached.{Has, SpeltPin, Spelt}
use Rattle.job_form.proofs.Back.{law, plain}
use Rattle.job_form.proofs.Grows.{grows}
use Rattle.job_form.proofs.Judged.{judged-status}
use Rattle.job_form.proofs.Short.{passed-short}
use Rattle.std.specs.Prelude.{Ok}

pub laws : Laws job_form_of job_shows Has Spelt
laws = record {
  none = refl;
  grows = grows;
  ends = ends;
  counted = λ k j p. counted k j;
  last = refl;
  nothing = λ j. refl;
  has = λ j. tt;
  tied = tied;
  law = law;
  plain = plain;
  short = passed-short;
}

pub same-order : (j : Job) → Spelled j → length (job_bytes j) ≤ text_max
    → status_of (answered (read job_form_of (job_bytes j))) ≡ check_job j
same-order j s h = trips.same-order job_form_of job_shows Has Spelt laws check_job judged-status j spelt h
  where
    pin : (b : Bool) → SpeltPin b j
    pin true = s.pin
    pin false = s.low

    spelt : (k : JobLine) → Has j k → Spelt j k
    spelt JobLine.Number p = s.number
    spelt JobLine.Kind p = tt
    spelt JobLine.Unknowns p = s.unknowns
    spelt JobLine.Pin p = pin (pin_written j)
    spelt JobLine.Lo p = s.low
    spelt JobLine.Hi p = s.high
    spelt JobLine.Inv p = s.inverse
    spelt JobLine.Steps p = s.steps
    spelt (JobLine.System i) p = s.system i p.1
    spelt JobLine.End p = tt

-- ---- both ways

pub checked-passed : (j : Job) → check_job j ≡ Ok tt → Passed job_shows (job_prior JobLine.End j) j
checked-passed = trips.done-passed job_form_of job_shows Has Spelt laws check_job judged-status

-- no job without fault is longer than a text may be
pub job-short : (j : Job) → check_job j ≡ Ok tt → length (job_bytes j) ≤ text_max
job-short j e = passed-short j (checked-passed j e)

-- "Values to text to values gives the same values in the live places."
pub read-write : (j : Job) → check_job j ≡ Ok tt
    → read_job (job_bytes j) ≡ Ok (live j)
unfolding read_job
read-write j e = ap answered (trips.read-write job_form_of job_shows Has Spelt laws check_job judged-status j e)

-- "Text to values to text gives the same bytes": a text is read without fault exactly where it is the bytes of a job
-- that has none and is zero in its dead places
pub exactly : (t : List ℕ) (j : Job)
    → (read job_form_of t ≡ Answer.done j) ↔ ((job_bytes j ≡ t) × (check_job j ≡ Ok tt) × (live j ≡ j))
exactly = trips.exactly job_form_of job_shows Has Spelt laws check_job judged-status

-- what the reader takes, the writer takes, and writes as it stood
pub write_read : (t : List ℕ) (j : Job) → read_job t ≡ Ok j
    → (job_bytes j ≡ t) × (check_job j ≡ Ok tt) × (live j ≡ j)
unfolding read_job
write_read t j e = (exactly t j).0 (answer-done (read job_form_of t) j e)
