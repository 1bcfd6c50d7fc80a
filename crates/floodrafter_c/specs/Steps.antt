-- The step in two operations as C has it: "A fault returns its number and a line", 0 and 0 where there is none, and
-- beside it all is zero.
use Rattle.std.specs.Prelude.{ℕ, List, Ok, Err}
use Rattle.faults.specs.Words.{fault_number}
use Rattle.jobs.specs.Zero.{zero_ends}
use Rattle.job_form.specs.JobForm.{read_job}
use Rattle.one_step.specs.OneStep.{gives_image}
use Rattle.faults.specs.Checked.{Checked}
use Rattle.jobs.specs.declared.Ends.{Ends}
use Rattle.jobs.specs.declared.Job.{Job}
use Rattle.step.specs.declared.Move.{Move}
use Rattle.one_step.specs.declared.Decided.{Decided}
use Rattle.floodrafter_c.specs.declared.steps.Sides.{Sides}
use Rattle.floodrafter_c.specs.declared.steps.Shown.{Shown}
use Rattle.floodrafter_c.specs.declared.steps.Moved.{Moved}

abbrev pub ends_in : Sides → Ends
ends_in b = record { lo = b.lo; hi = b.hi }

abbrev pub sides_of : Ends → Sides
sides_of e = record { lo = e.lo; hi = e.hi }

abbrev pub shown : ℕ → ℕ → ℕ → Ends → Shown
shown fault line n e = record { fault = fault; line = line; n = n; sides = sides_of e }

abbrev pub shown_by : ℕ → Checked Ends → Shown
shown_by n (Ok e) = shown 0 0 n e
shown_by n (Err r) = shown (fault_number r.fault) r.line 0 zero_ends

-- the header's numbers
abbrev pub move_number : Move → ℕ
move_number Move.None = 0
move_number Move.Unique = 1
move_number Move.Stalled = 2
move_number Move.Next = 3

abbrev pub moved_by : Checked Decided → Moved
moved_by (Ok d) = record { fault = 0; line = 0; verdict = move_number d.what; sides = sides_of d.ends }
moved_by (Err r) = record {
  fault = fault_number r.fault;
  line = r.line;
  verdict = move_number Move.None;
  sides = sides_of zero_ends;
}

-- what is shown of a job that is read; its reader's refusal comes first
abbrev shown_of : Checked Job → (Job → Checked Ends) → Shown
shown_of (Ok j) show = shown_by j.head.n (show j)
shown_of (Err r) show = shown_by 0 (Err r)

-- n and the starting box of a job text
abbrev pub shown_start : List ℕ → Shown
shown_start t = shown_of (read_job t) (λ j. Ok j.ends)

-- K of a job text and a box
abbrev pub shown_image : List ℕ → Ends → Shown
shown_image t x = shown_of (read_job t) (λ j. gives_image j x)
