-- What is read so far of a job text, in numbers alone, and what they stand for.
use Rattle.std.specs.Prelude.{ℕ, ◌+◌, ◌-◌, List, cond, replicate, eqb, pos, Ok, Err}
use Rattle.sizes.specs.Sizes.{n_max}
use Rattle.faults.specs.declared.Fault.{Fault}
use Rattle.faults.specs.Checked.{Found}
use Rattle.faults.specs.Words.{fault_number, fault_of}
use Rattle.reading.specs.Lines.{Next, State, step}
use Rattle.scan.specs.Lines.{line_of}
use Rattle.jobs.specs.declared.Kind.{Kind}
use Rattle.jobs.specs.declared.Head.{Head}
use Rattle.jobs.specs.declared.Job.{Job}
use Rattle.jobs.specs.declared.JobLine.{JobLine}
use Rattle.jobs.specs.Zero.{zero_row, zero_equation}
use Rattle.job_form.specs.JobForm.{job_form_of, job_says}
use Rattle.next_line.specs.declared.Read.{Read}

abbrev pub kind_number : Kind → ℕ
kind_number Kind.Poly = 0
kind_number Kind.Linear = 1
kind_number Kind.Eigen = 2

unfoldable pub kind_of : ℕ → Kind
kind_of k = cond (eqb k 0) Kind.Poly (cond (eqb k 1) Kind.Linear Kind.Eigen)

-- the places of the lines in their order, with one for the pin; 0 where no line is left
abbrev pub place_of : JobLine → ℕ
place_of JobLine.Number = 1
place_of JobLine.Kind = 2
place_of JobLine.Unknowns = 3
place_of JobLine.Pin = 4
place_of JobLine.Lo = 5
place_of JobLine.Hi = 6
place_of JobLine.Inv = 7
place_of JobLine.Steps = 8
place_of (JobLine.System i) = 9 + i
place_of JobLine.End = 0

unfoldable pub line_in : ℕ → JobLine
line_in k =
    cond (eqb k 0) JobLine.End
    (cond (eqb k 1) JobLine.Number
    (cond (eqb k 2) JobLine.Kind
    (cond (eqb k 3) JobLine.Unknowns
    (cond (eqb k 4) JobLine.Pin
    (cond (eqb k 5) JobLine.Lo
    (cond (eqb k 6) JobLine.Hi
    (cond (eqb k 7) JobLine.Inv
    (cond (eqb k 8) JobLine.Steps (JobLine.System (k - 9))))))))))

-- nothing is read
abbrev pub none_read : Read
none_read = record {
  fault = 0;
  line = 0;
  next = 1;
  number = 0;
  kind = 0;
  n = 0;
  pin = 0;
  lo = replicate n_max (pos 0);
  hi = replicate n_max (pos 0);
  inv = replicate n_max zero_row;
  steps = 0;
  eqs = replicate n_max zero_equation;
  rows = replicate n_max zero_row;
  right = replicate n_max (pos 0);
}

abbrev pub head_of : Read → Head
head_of r = record { number = r.number; kind = kind_of r.kind; n = r.n; pin = r.pin }

abbrev pub job_of : Read → Job
job_of r = record {
  head = head_of r;
  ends = record { lo = r.lo; hi = r.hi };
  inv = r.inv;
  steps = r.steps;
  system = record { eqs = r.eqs; rows = r.rows; right = r.right };
}

-- what is read so far: the kind of the next line and what the lines before it say, or the first bad line's fault and
-- number
unfoldable pub state_of : Read → State Fault JobLine Job
state_of r =
    cond (eqb r.fault 0) (State.at (line_in r.next) (job_of r)) (State.bad (fault_of r.fault) r.line)

-- the same in numbers: a bad line leaves what the lines before it say
abbrev pub with_state : Read → State Fault JobLine Job → Read
with_state r (State.at k j) = record {
  fault = r.fault;
  line = r.line;
  next = place_of k;
  number = j.head.number;
  kind = kind_number j.head.kind;
  n = j.head.n;
  pin = j.head.pin;
  lo = j.ends.lo;
  hi = j.ends.hi;
  inv = j.inv;
  steps = j.steps;
  eqs = j.system.eqs;
  rows = j.system.rows;
  right = j.system.right;
}
with_state r (State.bad f m) = record {
  fault = fault_number f;
  line = m;
  next = r.next;
  number = r.number;
  kind = r.kind;
  n = r.n;
  pin = r.pin;
  lo = r.lo;
  hi = r.hi;
  inv = r.inv;
  steps = r.steps;
  eqs = r.eqs;
  rows = r.rows;
  right = r.right;
}

-- the first bad line: what the lines before it say stays
abbrev pub stopped_by : Read → Fault → ℕ → Read
stopped_by r f m = with_state r (State.bad f m)

-- what a line leaves, where it has no fault
abbrev pub read_from : Read → Found (Next JobLine Job) → Found Read
read_from r (Ok x) = Ok (with_state r (State.at x.kind x.value))
read_from r (Err f) = Err f

-- a line of this kind, from the start of these bytes to their first LF
unfoldable pub line_read : Read → JobLine → List ℕ → Found Read
line_read r k bytes = read_from r (job_says k (job_of r) (line_of bytes 0))

-- the next line: "lines are taken in order and the first bad line decides"
unfoldable pub line_taken : Read → List ℕ → Read
line_taken r bytes =
    cond (eqb r.fault 0) (with_state r (step job_form_of (State.at (line_in r.next) (job_of r)) (line_of bytes 0))) r
