-- What the equations of a job ask of its parts: document 01's sizes, which the check of a job's values establishes.
use Rattle.std.specs.Prelude.{ℕ, ◌≤◌, ◌<◌, ℤ}
use Rattle.sizes.specs.Sizes.{n_max, entry_max}
use Rattle.integers.specs.Ranges.{Within}
use Rattle.intervals.specs.Places.{number_at}
use Rattle.jobs.specs.Places.{equation_at}
use Rattle.checks.specs.Accepted.{GoodPin}
use Rattle.jobs.specs.declared.Kind.{Kind}
use Rattle.jobs.specs.declared.Job.{Job}
use Rattle.slopes.specs.Ranges.{SystemIn}
use Rattle.systems.specs.Kinds.{row_of}

-- n matrix entries within 64.0
pub record EntriesIn (n : ℕ) (a : ℕ → ℤ) : Type 0 where
  pub places : n ≤ n_max
  pub each : (k : ℕ) → k < n → Within (a k) entry_max

-- the part of a job that its kind's equations are made of
abbrev pub PartsIn : Kind → Job → Type 0
PartsIn Kind.Poly j = SystemIn j.head.n (equation_at j.system.eqs)
PartsIn Kind.Linear j = ((i : ℕ) → i < j.head.n → EntriesIn j.head.n (row_of j i))
    × EntriesIn j.head.n (number_at j.system.right)
PartsIn Kind.Eigen j = (i : ℕ) → i < j.head.n → EntriesIn j.head.n (row_of j i)

-- what an accepted job has of it
pub record JobIn (j : Job) : Type 0 where
  pub some : 0 < j.head.n
  pub places : j.head.n ≤ n_max
  pub pin : GoodPin j.head.kind j.head.n j.head.pin
  pub parts : PartsIn j.head.kind j
