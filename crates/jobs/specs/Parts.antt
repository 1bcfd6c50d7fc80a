-- A job with one part, or one place of a part, exchanged.
use Rattle.std.specs.Prelude.{ℕ, List, set, ℤ}
use Rattle.jobs.specs.declared.Kind.{Kind}
use Rattle.jobs.specs.declared.Equation.{Equation}
use Rattle.jobs.specs.declared.Row.{Row}
use Rattle.jobs.specs.declared.Head.{Head}
use Rattle.jobs.specs.declared.Ends.{Ends}
use Rattle.jobs.specs.declared.Body.{Body}
use Rattle.jobs.specs.declared.Job.{Job}

-- ---- the parts

abbrev pub with_head : Job → Head → Job
with_head j h = record { head = h; ends = j.ends; inv = j.inv; steps = j.steps; system = j.system }

abbrev pub with_ends : Job → Ends → Job
with_ends j e = record { head = j.head; ends = e; inv = j.inv; steps = j.steps; system = j.system }

abbrev pub with_inverse : Job → List Row → Job
with_inverse j inv = record { head = j.head; ends = j.ends; inv = inv; steps = j.steps; system = j.system }

abbrev pub with_steps : Job → ℕ → Job
with_steps j m = record { head = j.head; ends = j.ends; inv = j.inv; steps = m; system = j.system }

abbrev pub with_system : Job → Body → Job
with_system j s = record { head = j.head; ends = j.ends; inv = j.inv; steps = j.steps; system = s }

-- ---- what one line says

abbrev pub with_number : Job → ℕ → Job
with_number j m = with_head j (record { number = m; kind = j.head.kind; n = j.head.n; pin = j.head.pin })

abbrev pub with_kind : Job → Kind → Job
with_kind j k = with_head j (record { number = j.head.number; kind = k; n = j.head.n; pin = j.head.pin })

-- the pin where no line says it: "Without the line the last is pinned"; "Eigen jobs, and no others" have one
abbrev pub last_pin : Kind → ℕ → ℕ
last_pin Kind.Poly n = 0
last_pin Kind.Linear n = 0
last_pin Kind.Eigen n = n

abbrev pub with_unknowns : Job → ℕ → Job
with_unknowns j n = with_head j (record {
  number = j.head.number;
  kind = j.head.kind;
  n = n;
  pin = last_pin j.head.kind n;
})

abbrev pub with_pin : Job → ℕ → Job
with_pin j p = with_head j (record { number = j.head.number; kind = j.head.kind; n = j.head.n; pin = p })

abbrev pub with_lo : Job → List ℤ → Job
with_lo j xs = with_ends j (record { lo = xs; hi = j.ends.hi })

abbrev pub with_hi : Job → List ℤ → Job
with_hi j xs = with_ends j (record { lo = j.ends.lo; hi = xs })

abbrev pub with_equation : Job → ℕ → Equation → Job
with_equation j i q =
    with_system j (record { eqs = set j.system.eqs i q; rows = j.system.rows; right = j.system.right })

abbrev pub with_row : Job → ℕ → List ℤ → Job
with_row j i xs =
    with_system j
    (record { eqs = j.system.eqs; rows = set j.system.rows i (record { at = xs }); right = j.system.right })

abbrev pub with_side : Job → ℕ → ℤ → Job
with_side j i z =
    with_system j (record { eqs = j.system.eqs; rows = j.system.rows; right = set j.system.right i z })
