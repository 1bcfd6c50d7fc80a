-- What demand 3 says of a job: its run with any allowance, and its solutions in the formulas of document 01, "The three
-- kinds".
use Rattle.std.specs.Prelude.{◌≡◌, ℕ, ◌<◌, pos, ◌*ℤ◌}
use Rattle.integers.specs.Sums.{sum_to}
use Rattle.intervals.specs.Interval.{mark}
use Rattle.intervals.specs.Places.{number_at}
use Rattle.slopes.specs.Fractions.{units_of}
use Rattle.systems.specs.Kinds.{pinned, row_of}
use Rattle.systems.specs.Formulas.{coordinate, formula_num}
use Rattle.step.specs.Values.{start_of}
use Rattle.run.specs.Job.{run_from}
use Rattle.jobs.specs.Parts.{with_steps}
use Rattle.jobs.specs.declared.Job.{Job}
use Rattle.run.specs.declared.Outcome.{Outcome}
use Rattle.promises.specs.Claims.{Point}

-- the job with another step allowance
abbrev pub allow : ℕ → Job → Job
allow allowance j = with_steps j allowance

-- the job's run with an allowance, from its own starting box
abbrev pub job_run : Job → ℕ → Outcome
job_run j = run_from j (start_of j)

-- the point is a zero of the job: the formula of each equation is 0 there
pub record Solves (j : Job) (p : Point) : Type 0 where
  pub each : (i : ℕ) → i < j.head.n → formula_num j i p.num p.den ≡ pos 0

-- "a linear one (A x = b)": row i times x is b(i). Unknown k is p k over 65,536 den.
pub record SolvesLinear (j : Job) (p : Point) : Type 0 where
  pub each : (i : ℕ) → i < j.head.n
      → sum_to j.head.n (λ k. row_of j i k *ℤ p.num k) ≡ number_at j.system.right i *ℤ units_of p.den

-- "an eigenpair of a matrix", A x = L x, as document 02, P2, has it: "coordinate pin is 1 and the eigenvalue takes its
-- place as that unknown": row i times x is L x(i). In marks L x(i) is 65,536 times what it is in units.
pub record Eigenpair (j : Job) (p : Point) : Type 0 where
  pub each : (i : ℕ) → i < j.head.n
      → sum_to j.head.n (λ k. row_of j i k *ℤ coordinate (pinned j) p.num p.den k) *ℤ units_of p.den
      ≡ pos mark *ℤ (p.num (pinned j) *ℤ coordinate (pinned j) p.num p.den i)
