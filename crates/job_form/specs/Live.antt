-- What is read of a job before a line of some kind: its values in the live places, and zeros past n, past an equation's
-- count, and in the system that its kind does not have.
use Rattle.std.specs.Prelude.{ℕ}
use Rattle.sizes.specs.Sizes.{n_max}
use Rattle.lists.specs.Loops.{tab}
use Rattle.jobs.specs.Places.{equation_at}
use Rattle.jobs.specs.Zero.{zero_equation, zero_body, no_job}
use Rattle.jobs.specs.Parts.{with_number, with_kind, with_unknowns, with_pin}
use Rattle.jobs.specs.Parts.{with_lo, with_hi, with_inverse, with_steps, with_system}
use Rattle.jobs.specs.declared.Kind.{Kind}
use Rattle.jobs.specs.declared.Body.{Body}
use Rattle.jobs.specs.declared.Job.{Job}
use Rattle.jobs.specs.declared.JobLine.{JobLine}
use Rattle.reading.specs.NumberLines.{placed}
use Rattle.term_round.specs.Live.{live_equation}
use Rattle.lines.specs.Places.{live_rows}

-- the first m lines of a system of n unknowns, by its kind
unfoldable pub live_system : Kind → ℕ → ℕ → Body → Body
live_system Kind.Poly n m s = record {
  eqs = tab n_max m zero_equation (λ i. live_equation n (equation_at s.eqs i));
  rows = zero_body.rows;
  right = zero_body.right;
}
live_system Kind.Linear n m s = record {
  eqs = zero_body.eqs;
  rows = live_rows n m s.rows;
  right = placed n_max m s.right;
}
live_system Kind.Eigen n m s = record { eqs = zero_body.eqs; rows = live_rows n m s.rows; right = zero_body.right }

abbrev pub upto_kind : Job → Job
upto_kind j = with_number no_job j.head.number

abbrev pub upto_unknowns : Job → Job
upto_unknowns j = with_kind (upto_kind j) j.head.kind

abbrev pub upto_pin : Job → Job
upto_pin j = with_unknowns (upto_unknowns j) j.head.n

-- the pin that a reader leaves: none but in an eigenpair's job
abbrev pub live_pin : Kind → ℕ → ℕ
live_pin Kind.Poly pin = 0
live_pin Kind.Linear pin = 0
live_pin Kind.Eigen pin = pin

abbrev pub upto_low : Job → Job
upto_low j = with_pin (upto_pin j) (live_pin j.head.kind j.head.pin)

abbrev pub upto_high : Job → Job
upto_high j = with_lo (upto_low j) (placed n_max j.head.n j.ends.lo)

abbrev pub upto_inverse : Job → Job
upto_inverse j = with_hi (upto_high j) (placed n_max j.head.n j.ends.hi)

abbrev pub upto_steps : Job → Job
upto_steps j = with_inverse (upto_inverse j) (live_rows j.head.n j.head.n j.inv)

-- before line m of the system
abbrev pub upto_system : ℕ → Job → Job
upto_system m j =
    with_system (with_steps (upto_steps j) j.steps) (live_system j.head.kind j.head.n m j.system)

abbrev pub job_upto : JobLine → Job → Job
job_upto JobLine.Number j = no_job
job_upto JobLine.Kind j = upto_kind j
job_upto JobLine.Unknowns j = upto_unknowns j
job_upto JobLine.Pin j = upto_pin j
job_upto JobLine.Lo j = upto_low j
job_upto JobLine.Hi j = upto_high j
job_upto JobLine.Inv j = upto_inverse j
job_upto JobLine.Steps j = upto_steps j
job_upto (JobLine.System i) j = upto_system i j
job_upto JobLine.End j = upto_system j.head.n j

-- "the same values in the live places"
abbrev pub live : Job → Job
live = job_upto JobLine.End
