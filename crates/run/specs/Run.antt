-- Document 01, the run: steps until one decides or the allowance is used up.
use Rattle.std.specs.Prelude.{List, ℕ, zero, suc, ◌+◌, ℤ}
use Rattle.intervals.specs.declared.Interval.{Interval}
use Rattle.jobs.specs.declared.Equation.{Equation}
use Rattle.jobs.specs.declared.Verdict.{Verdict}
use Rattle.step.specs.declared.Move.{Move}
use Rattle.step.specs.Decide.{step_of}
use Rattle.run.specs.declared.Outcome.{Outcome}

abbrev pub outcome : Verdict → ℕ → List Interval → Outcome
outcome v steps x = record { verdict = v; steps = steps; sides = x }

-- a decided step's answer, or what comes after it
abbrev pub settle : Move → List Interval → ℕ → (List Interval → Outcome) → Outcome
settle Move.None x steps rest = outcome Verdict.None steps x
settle Move.Unique x steps rest = outcome Verdict.Unique steps x
settle Move.Stalled x steps rest = outcome Verdict.Stalled steps x
settle Move.Next x steps rest = rest x

-- `allowance` more steps may be begun, `done` were: "Every step begun is counted, the deciding one too."
unfoldable pub run_of : ℕ → (ℕ → Equation) → (ℕ → ℕ → ℤ) → ℕ → ℕ → List Interval → Outcome
run_of n q C zero done x = outcome Verdict.Spent done x
run_of n q C (suc allowance) done x =
    settle (step_of n q C x).what (step_of n q C x).sides (done + 1) (run_of n q C allowance (done + 1))
