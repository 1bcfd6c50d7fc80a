-- Demand 3 over a system: n equations of degree 3 at most, any proposed inverse, a starting box with its ends in order.
-- Only statements, in the customer's order and words, each proved by one line from the files beside this one. `Demand3`
-- says the same of accepted jobs.
use mathlib.Core.Path.{◌≡◌, ◌∙◌}
use mathlib.Core.List.{List}
use Prim.Native.Nat.{ℕ, ◌+◌, ◌-◌, ◌≤◌, ◌<◌}
use Rattle.intervals.specs.declared.Interval.{Interval}
use Rattle.jobs.specs.declared.Verdict.{Verdict}
use Rattle.step.specs.Step.{image_box}
use Rattle.step.specs.Decide.{step_of}
use Rattle.run.specs.Run.{outcome, settle}
use Rattle.promises.specs.Claims.{Point, Lies, Same, Zero, newton_of, BoxInside}
use Rattle.promises.specs.Claims.{System, run_with, Begins, UniqueStep}
use Rattle.runs.proofs.Runs.{more, run-one, run_on, run-nested, image-box}
use Rattle.promises.proofs.Verdicts.{answer-stays}
use Rattle.promises.proofs.Answers.{step-begun, answer_keeps, answer-none}
use Rattle.promises.proofs.Answers.{step_keeps, answer-same, answer-unique}

module _ (s : System) where
  -- "More steps never unsay an answer. Take one accepted job with two step allowances. The larger allowance's box lies
  -- in the smaller's,"
  pub larger-inside : {a b : ℕ} → a ≤ b → BoxInside s.n (run_with s b).sides (run_with s a).sides
  larger-inside {a} {b} l = rw (more l) (run-nested s.n s.equations s.inverse s.room a (b - a) 0 s.start)

  -- "and a "none" or "unique" from the smaller stays, with its box": with its step count too,
  pub none_stays : {a b : ℕ} → a ≤ b → (run_with s a).verdict ≡ Verdict.None → run_with s b ≡ run_with s a
  none_stays l says = answer-stays s l says (λ spent. cc)

  pub unique-stays : {a b : ℕ} → a ≤ b → (run_with s a).verdict ≡ Verdict.Unique → run_with s b ≡ run_with s a
  unique-stays l says = answer-stays s l says (λ spent. cc)

  -- and so does a "stalled"
  pub stalled-stays : {a b : ℕ} → a ≤ b → (run_with s a).verdict ≡ Verdict.Stalled → run_with s b ≡ run_with s a
  stalled-stays l says = answer-stays s l says (λ spent. cc)

  -- "At each step": each step that a run counts begins on a box,
  pub begun : (a t : ℕ) → t < (run_with s a).steps → Begins (run_with s) t (run_with s t).sides
  begun a t l = step-begun s a t l

  -- and where step t + 1 begins on x, the run goes on by what the step on x decides;
  pub each_step : {t : ℕ} {x : List Interval} → Begins (run_with s) t x
      → run_with s (t + 1)
      ≡ settle (step_of s.n s.equations s.inverse x).what (step_of s.n s.equations s.inverse x).sides
      (t + 1) (outcome Verdict.Spent (t + 1))
  each_step {t} {x} b =
      run_on s.n s.equations s.inverse t 1 0 s.start b ∙ run-one s.n s.equations s.inverse t x

  -- "every point of the box with fractions for coordinates has its exact Newton image inside the computed image."
  pub images-inside : {t : ℕ} {x : List Interval} → Begins (run_with s) t x → (p : Point) → Lies s.n p x
      → Lies s.n (newton_of s.n s.equations s.inverse p) (image_box s.n s.equations s.inverse x)
  images-inside {t} {x} b p h = image-box s.n s.equations s.inverse s.room s.degrees x h

  -- "So no exact fraction zero of the starting box is ever lost,": it lies in the box of every answer, in that of every
  -- step, and the verdict is not "none"
  pub zero-in-answer : (p : Point) → Zero s.n s.equations p → Lies s.n p s.start → (a : ℕ)
      → Lies s.n p (run_with s a).sides
  zero-in-answer p zero lies a = answer_keeps s zero lies a

  pub zero-in-step : (p : Point) → Zero s.n s.equations p → Lies s.n p s.start
      → {t : ℕ} {x : List Interval} → Begins (run_with s) t x → Lies s.n p x
  zero-in-step p zero lies b = step_keeps s zero lies b

  pub none-no-zero : (a : ℕ) → (run_with s a).verdict ≡ Verdict.None → (p : Point)
      → Zero s.n s.equations p → Lies s.n p s.start → ⊥
  none-no-zero a says p zero lies = answer-none s zero lies a says

  -- "and "unique" means there is at most one."
  pub at_most_one : (a : ℕ) → (run_with s a).verdict ≡ Verdict.Unique → (p r : Point)
      → Zero s.n s.equations p → Zero s.n s.equations r
      → Lies s.n p s.start → Lies s.n r s.start → Same s.n p r
  at_most_one a says p r y z h g = answer-same s a says y z h g

  -- "At a "unique" step, two different fraction points of the box it began on always have closer images: their largest
  -- coordinate difference, each divided by that edge's width, gets strictly smaller."
  pub unique-closer : (a : ℕ)
      → (run_with s a).verdict ≡ Verdict.Unique → UniqueStep s.n s.equations s.inverse (run_with s) (run_with s a)
  unique-closer a says = answer-unique s a says
