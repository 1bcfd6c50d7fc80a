-- What the parts of a job text say.
use Rattle.std.specs.Prelude.{ℕ, ◌≤◌, ◌<◌, ◌≡◌, List, Ok, Err, IfOk}
use Rattle.sizes.specs.Sizes.{n_max}
use Rattle.faults.specs.Checked.{Found, Checked}
use Rattle.faults.specs.Checks.{on_line}
use Rattle.scan.specs.declared.At.{At}
use Rattle.jobs.specs.declared.Kind.{Kind}
use Rattle.jobs.specs.declared.Body.{Body}
use Rattle.jobs.specs.declared.Head.{Head}
use Rattle.jobs.specs.declared.Job.{Job}
use Rattle.jobs.specs.declared.JobLine.{JobLine}
use Rattle.jobs.specs.Lines.{after_n, job_number}
use Rattle.jobs.specs.Zero.{zero_body, no_job}
use Rattle.jobs.specs.Parts.{last_pin, with_head, with_ends, with_inverse, with_steps, with_system}
use Rattle.line_read.specs.States.{Leads}
use Rattle.job_form.specs.JobForm.{job_form_of, after_system}
use Rattle.job_read.specs.declared.first.Boxed.{Boxed}

-- "n: 1 to" 6
pub record Whole (head : Head) : Type 0 where
  pub some : 0 < head.n
  pub few : head.n ≤ n_max

-- an eigenpair's head of which n is the last that is read
pub record Unpinned (head : Head) : Type 0 where
  pub kind : head.kind ≡ Kind.Eigen
  pub last : head.pin ≡ head.n

-- job, kind and n
pub record NamesFrom (t : List ℕ) (r : Checked (At Head)) : Type 0 where
  pub leads : Leads job_form_of t 0 JobLine.Number no_job r (λ h. after_n h.kind) (with_head no_job)
  pub whole : IfOk r (λ y. Whole y.value)
  pub last : IfOk r (λ y. y.value.pin ≡ last_pin y.value.kind y.value.n)

-- the pin, where it is written
pub record PinFrom (t : List ℕ) (a : ℕ) (head : Head) (r : Checked (At Head)) : Type 0 where
  pub leads : (j : Job) → j.head ≡ head → Leads job_form_of t a JobLine.Pin j r (λ h. JobLine.Lo) (with_head j)
  pub same : IfOk r (λ y. y.value.n ≡ head.n)

-- the lines before lo
pub record HeadFrom (t : List ℕ) (r : Checked (At Head)) : Type 0 where
  pub leads : Leads job_form_of t 0 JobLine.Number no_job r (λ h. JobLine.Lo) (with_head no_job)
  pub whole : IfOk r (λ y. Whole y.value)

abbrev pub with_box : Job → Boxed → Job
with_box j b = with_steps (with_inverse (with_ends j b.ends) b.inv) b.steps

-- whatever else the lines before say, those of the box add it
pub record BoxFrom (t : List ℕ) (a : ℕ) (head : Head) (r : Checked (At Boxed)) : Type 0 where
  pub leads : (j : Job) → j.head ≡ head → Leads job_form_of t a JobLine.Lo j r (λ b. JobLine.System 0) (with_box j)

-- those of the system add it to a job that has none
pub record SystemFrom (t : List ℕ) (a : ℕ) (head : Head) (r : Checked (At Body)) : Type 0 where
  pub leads : (j : Job) → j.head ≡ head → j.system ≡ zero_body
      → Leads job_form_of t a (JobLine.System 0) j r (λ s. JobLine.End) (with_system j)

-- this value, where a place is told
abbrev pub holding : {Y : Type 0} → Y → Checked ℕ → Checked (At Y)
holding y (Ok b) = Ok (record { value = y; next = b })
holding y (Err e) = Err e

-- line i of the system makes `new` of it, which was `old`
pub record LineAdds (t : List ℕ) (a : ℕ) (head : Head) (i : ℕ) (old new : Body) (r : Found ℕ) : Type 0 where
  pub leads : (j : Job) → j.head ≡ head
      → Leads job_form_of t a (JobLine.System i) (with_system j old)
      (holding new (on_line r (job_number (JobLine.System i) head))) (λ s. after_system i head.n) (with_system j)

-- a line of the system, as line i, adds something to it
pub record LineFrom (t : List ℕ) (a : ℕ) (head : Head) (r : Found ℕ) : Type 0 where
  pub add : ℕ → Body → Body
  pub adds : (i : ℕ) (old : Body) → LineAdds t a head i old (add i old) r

-- all of them, whatever the system is that they say
pub record SystemEnds (t : List ℕ) (a : ℕ) (head : Head) (r : Checked ℕ) : Type 0 where
  pub system : Body
  pub from : SystemFrom t a head (holding system r)
