-- The public entry, handed an accepted job with another allowance, answers the job's run with that allowance.
use mathlib.Core.Path.{◌≡◌, refl, ap, fun_ext}
use Prim.Native.Nat.{ℕ, ◌≤◌}
use Rattle.sizes.specs.Sizes.{steps_max}
use Rattle.jobs.specs.declared.Kind.{Kind}
use Rattle.jobs.specs.declared.Job.{Job}
use Rattle.jobs.specs.declared.Equation.{Equation}
use Rattle.faults.specs.Checks.{and_then}
use Rattle.checks.specs.Accepted.{GoodSystem, Accepted}
use Rattle.checks.proofs.AcceptedLaws.{done-check}
use Rattle.systems.specs.Kinds.{equation_by, equation_of}
use Rattle.step.specs.Values.{start_of, inverse_of}
use Rattle.run.specs.Run.{run_of}
use Rattle.run.specs.Job.{outcome_of, result_of, run_job}
use Rattle.promises.specs.Jobs.{allow, job_run}
use Rattle.std.specs.Prelude.{Ok}

module _ (j : Job) (a : ℕ) where
  -- the allowance plays no part in the system
  allow-equation : (i : ℕ) → equation_of (allow a j) i ≡ equation_of j i
  unfolding equation_of
  allow-equation i = by j.head.kind
    where
      by : (k : Kind) → equation_by k (allow a j) i ≡ equation_by k j i
      by Kind.Poly = refl
      by Kind.Linear = refl
      by Kind.Eigen = refl

  allow-good : (i : ℕ) → GoodSystem j.head.kind j i → GoodSystem j.head.kind (allow a j) i
  allow-good i = by j.head.kind
    where
      by : (k : Kind) → GoodSystem k j i → GoodSystem k (allow a j) i
      by Kind.Poly g = g
      by Kind.Linear g = g
      by Kind.Eigen g = g

  allow-outcome : outcome_of (allow a j) ≡ job_run j a
  unfolding outcome_of
  allow-outcome = ap (λ (q : ℕ → Equation). run_of j.head.n q (inverse_of j) a 0 (start_of j)) (fun_ext allow-equation)

  allow-accepted : Accepted j → a ≤ steps_max → Accepted (allow a j)
  allow-accepted h l = record {
    number = h.number;
    some = h.some;
    few = h.few;
    pin = h.pin;
    low = h.low;
    high = h.high;
    ordered = h.ordered;
    inverse = h.inverse;
    steps = l;
    system = λ i m. allow-good i (h.system i m);
  }

pub entry_runs : (j : Job) → Accepted j → (a : ℕ)
    → a ≤ steps_max → run_job (allow a j) ≡ Ok (result_of j (job_run j a))
unfolding run_job result_of and_then
entry_runs j h a l = rw (done-check (allow a j) (allow-accepted j a h l), allow-outcome j a)
