-- What the reader of a job text answers, and when.
use Prim.Native.Nat.{ℕ, ◌+◌, ◌≤◌}
use mathlib.Core.Path.{◌≡◌, ap}
use mathlib.Core.List.{List, ◌++◌}
use mathlib.Core.Logic.{◌↔◌}
use lib.ListN.{length}
use Rattle.sizes.specs.Sizes.{text_max}
use Rattle.faults.specs.declared.Fault.{Fault}
use Rattle.faults.specs.Checked.{status_of, refused}
use Rattle.faults.proofs.Laws.{done-value}
use Rattle.checks.specs.Checks.{check_job}
use Rattle.jobs.specs.Zero.{no_job}
use Rattle.jobs.specs.declared.Job.{Job}
use Rattle.reading.specs.Lines.{read}
use Rattle.reading.specs.Refused.{Decides, Refused}
use Rattle.reading.proofs.Parts.{decided-text}
use Rattle.reading.proofs.Refused.{refused-exactly}
use Rattle.reading.proofs.Trips.{numbered}
use Rattle.checks.specs.Answered.{job_in}
use Rattle.lines.specs.Answered.{answered}
use Rattle.lines.proofs.Answered.{status-refused}
use Rattle.job_form.specs.JobForm.{job_form_of, read_job}
use Rattle.job_form.specs.JobBytes.{job_shows, job_bytes, Spelled}
use Rattle.job_form.specs.Live.{live}
use Rattle.job_form.proofs.Reached.{Has, Spelt}
use Rattle.job_form.proofs.Trips.{laws}
use Rattle.job_form.proofs.Trips as trips
use Rattle.std.specs.Prelude.{Ok}

-- "a line counted from 1"
pub line-number : (t : List ℕ) (f : Fault) (n : ℕ) (b : Refused job_form_of t f n) → n ≡ length b.before + 1
line-number = numbered job_form_of job_shows Has Spelt laws

module _ (t : List ℕ) where
  pub whole : status_of (read_job t) ≡ Ok tt → read_job t ≡ Ok (job_in (read_job t))
  whole = done-value no_job (read_job t)

  -- what is read without fault has none, and is written as it was
  pub read-checked : status_of (read_job t) ≡ Ok tt → check_job (job_in (read_job t)) ≡ Ok tt
  read-checked e = (trips.write_read t (job_in (read_job t)) (whole e)).1

  pub read_same : status_of (read_job t) ≡ Ok tt → job_bytes (job_in (read_job t)) ≡ t
  read_same e = (trips.write_read t (job_in (read_job t)) (whole e)).0

  pub exactly : (j : Job)
      → (read_job t ≡ Ok j)
      ↔ ((job_bytes j ≡ t) × (check_job j ≡ Ok tt) × (live j ≡ j))
  unfolding read_job
  exactly j = (trips.write_read t j, λ h. ap answered ((trips.exactly t j).1 h))

  pub first-bad : (f : Fault) (n : ℕ) → length t ≤ text_max
      → (status_of (read_job t) ≡ refused f n) ↔ Refused job_form_of t f n
  unfolding read_job
  first-bad f n h =
      let is = refused-exactly job_form_of t f n h in (
        λ e. is.0 (status-refused (read job_form_of t) f n e),
        λ b. ap (λ a. status_of (answered a)) (is.1 b),
      )

pub decided : (a b : List ℕ) (f : Fault) (n : ℕ) → Decides job_form_of a f n → length (a ++ b) ≤ text_max
    → read_job (a ++ b) ≡ refused f n
unfolding read_job
decided a b f n d h = ap answered (decided-text job_form_of a b f n d h)

pub same-order : (j : Job) → Spelled j → length (job_bytes j) ≤ text_max
    → status_of (read_job (job_bytes j)) ≡ check_job j
unfolding read_job
same-order = trips.same-order
