-- Demand 3, of every accepted job of the three kinds with any proposed inverse. Only statements, in the customer's
-- order and words; each is `Promises` of the job's system. `job_run j a` is the run of the job j with the allowance a,
-- by the definitions that the contracts of the run cite.
use mathlib.Core.Path.{◌≡◌}
use mathlib.Core.List.{List}
use mathlib.Core.Logic.{◌↔◌}
use Prim.Native.Nat.{ℕ, ◌+◌, ◌≤◌, ◌<◌}
use lib.IntN.{pos}
use lib.Signed.{◌<ℤ◌}
use Rattle.sizes.specs.Sizes.{steps_max}
use Rattle.intervals.specs.declared.Interval.{Interval}
use Rattle.jobs.specs.declared.Kind.{Kind}
use Rattle.jobs.specs.declared.Job.{Job}
use Rattle.jobs.specs.declared.Verdict.{Verdict}
use Rattle.checks.specs.Checks.{check_job}
use Rattle.checks.specs.Accepted.{Accepted}
use Rattle.checks.proofs.AcceptedLaws.{check_done}
use Rattle.systems.specs.Kinds.{equation_of}
use Rattle.step.specs.Step.{image_box}
use Rattle.step.specs.Decide.{step_of}
use Rattle.step.specs.Values.{start_of, inverse_of}
use Rattle.run.specs.Run.{outcome, settle}
use Rattle.run.specs.Job.{result_of, run_job}
use Rattle.promises.specs.Claims.{Point, Lies, Same, newton_of, BoxInside, System, Begins, UniqueStep}
use Rattle.promises.specs.Jobs.{allow, job_run, Solves, SolvesLinear, Eigenpair}
use Rattle.promises.proofs.Jobs.{system_of, solves-zero}
use Rattle.promises.proofs.Entry.{entry_runs}
use Rattle.promises.proofs.Jobs as jobs
use Rattle.promises.proofs.Promises as promises
use Rattle.std.specs.Prelude.{Ok}

module _ (j : Job) (checked : check_job j ≡ Ok tt) where
  accepted : Accepted j
  accepted = check_done j checked

  abbrev s : System
  s = system_of j accepted

  -- The run that the promises are about is the public entry's: handed the job with an allowance that it accepts, it
  -- answers `job_run` with that allowance.
  pub entry : (a : ℕ)
      → a ≤ steps_max → run_job (allow a j) ≡ Ok (result_of j (job_run j a))
  entry = entry_runs j accepted

  -- "More steps never unsay an answer. Take one accepted job with two step allowances. The larger allowance's box lies
  -- in the smaller's,"
  pub larger-inside : {a b : ℕ} → a ≤ b → BoxInside j.head.n (job_run j b).sides (job_run j a).sides
  larger-inside = promises.larger-inside s

  -- "and a "none" or "unique" from the smaller stays, with its box.": with its step count too,
  pub none_stays : {a b : ℕ} → a ≤ b → (job_run j a).verdict ≡ Verdict.None → job_run j b ≡ job_run j a
  none_stays = promises.none_stays s

  pub unique-stays : {a b : ℕ} → a ≤ b → (job_run j a).verdict ≡ Verdict.Unique → job_run j b ≡ job_run j a
  unique-stays = promises.unique-stays s

  -- and so does a "stalled"
  pub stalled-stays : {a b : ℕ} → a ≤ b → (job_run j a).verdict ≡ Verdict.Stalled → job_run j b ≡ job_run j a
  stalled-stays = promises.stalled-stays s

  -- "At each step": each step that a run counts begins on a box,
  pub begun : (a t : ℕ) → t < (job_run j a).steps → Begins (job_run j) t (job_run j t).sides
  begun = promises.begun s

  -- and where step t + 1 begins on x, the run goes on by what the step on x decides;
  pub each_step : {t : ℕ} {x : List Interval} → Begins (job_run j) t x
      → job_run j (t + 1)
      ≡ settle (step_of j.head.n (equation_of j) (inverse_of j) x).what
      (step_of j.head.n (equation_of j) (inverse_of j) x).sides (t + 1) (outcome Verdict.Spent (t + 1))
  each_step = promises.each_step s

  -- "every point of the box with fractions for coordinates has its exact Newton image inside the computed image."
  pub images-inside : {t : ℕ} {x : List Interval} → Begins (job_run j) t x → (p : Point) → Lies j.head.n p x
      → Lies j.head.n (newton_of j.head.n (equation_of j) (inverse_of j) p)
      (image_box j.head.n (equation_of j) (inverse_of j) x)
  images-inside = promises.images-inside s

  -- "So no exact fraction zero of the starting box is ever lost,": it lies in the box of every answer and of every
  -- step,
  pub zero-in-answer : (p : Point) → Solves j p → Lies j.head.n p (start_of j) → (a : ℕ)
      → Lies j.head.n p (job_run j a).sides
  zero-in-answer p zero = promises.zero-in-answer s p (solves-zero j accepted zero)

  pub zero-in-step : (p : Point) → Solves j p → Lies j.head.n p (start_of j) → {t : ℕ} {x : List Interval}
      → Begins (job_run j) t x → Lies j.head.n p x
  zero-in-step p zero = promises.zero-in-step s p (solves-zero j accepted zero)

  -- and where there is one the verdict is not "none":
  pub none-no-zero : (a : ℕ) → (job_run j a).verdict ≡ Verdict.None → (p : Point)
      → Solves j p → Lies j.head.n p (start_of j) → ⊥
  none-no-zero a says p zero = promises.none-no-zero s a says p (solves-zero j accepted zero)

  -- A fraction zero of a linear job is a fraction solution of A x = b, one of an eigenpair's job is a fraction
  -- eigenpair with coordinate pin 1
  pub linear-zeros : j.head.kind ≡ Kind.Linear → (p : Point) → pos 0 <ℤ p.den → Solves j p ↔ SolvesLinear j p
  linear-zeros kind p den = jobs.linear-zeros j den kind

  pub eigen-zeros : j.head.kind ≡ Kind.Eigen → (p : Point) → pos 0 <ℤ p.den → Solves j p ↔ Eigenpair j p
  eigen-zeros kind p den = jobs.eigen-zeros j den kind

  -- so "none" says of a linear job that the starting box has no fraction solution of A x = b, and of an eigenpair's
  -- that it has no such eigenpair
  pub none-linear : (a : ℕ) → (job_run j a).verdict ≡ Verdict.None → j.head.kind ≡ Kind.Linear → (p : Point)
      → SolvesLinear j p → Lies j.head.n p (start_of j) → ⊥
  none-linear a says kind p solves lies = none-no-zero a says p ((linear-zeros kind p lies.den).1 solves) lies

  pub none-eigen : (a : ℕ) → (job_run j a).verdict ≡ Verdict.None → j.head.kind ≡ Kind.Eigen → (p : Point)
      → Eigenpair j p → Lies j.head.n p (start_of j) → ⊥
  none-eigen a says kind p pair lies = none-no-zero a says p ((eigen-zeros kind p lies.den).1 pair) lies

  -- "and "unique" means there is at most one." By `zero-in-answer` it lies in the returned box, if there is one.
  pub at_most_one : (a : ℕ) → (job_run j a).verdict ≡ Verdict.Unique → (p r : Point) → Solves j p → Solves j r
      → Lies j.head.n p (start_of j) → Lies j.head.n r (start_of j) → Same j.head.n p r
  at_most_one a says p r y z = promises.at_most_one s a says p r (solves-zero j accepted y) (solves-zero j accepted z)

  -- "At a "unique" step, two different fraction points of the box it began on always have closer images: their largest
  -- coordinate difference, each divided by that edge's width, gets strictly smaller."
  pub unique-closer : (a : ℕ) → (job_run j a).verdict ≡ Verdict.Unique
      → UniqueStep j.head.n (equation_of j) (inverse_of j) (job_run j) (job_run j a)
  unique-closer = promises.unique-closer s
