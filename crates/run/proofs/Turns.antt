-- The run from a step on: what a turn of its loop does, and its end.
use mathlib.Core.Path.{◌≡◌, sym, ap, ◌∙◌}
use mathlib.Core.List.{List}
use Prim.Native.Nat.{ℕ, suc, ◌+◌, ◌-◌, ◌<◌, ◌≤◌}
use native.Mathlib.Nat.{le_antisymm}
use native.Mathlib.Omega.{arith}
use lib.IntN.{ℤ}
use lib.Signed.{◌≤ℤ◌}
use Rattle.intervals.specs.declared.Interval.{Interval}
use Rattle.intervals.specs.Places.{side_at}
use Rattle.intervals.proofs.Places.{side-made}
use Rattle.slopes.specs.Ranges.{BoxIn}
use Rattle.jobs.specs.declared.Equation.{Equation}
use Rattle.jobs.specs.declared.Verdict.{Verdict}
use Rattle.step.specs.declared.Move.{Move}
use Rattle.step.specs.declared.Decision.{Decision}
use Rattle.step.specs.Step.{image_of, image_box}
use Rattle.step.specs.Decide.{decide_of}
use Rattle.step.specs.Ranges.{StepIn}
use Rattle.step.proofs.Imaged.{image-in}
use Rattle.step.proofs.Keep.{next-in}
use Rattle.step.proofs.Decisions.{step_is}
use Rattle.run.specs.declared.Outcome.{Outcome}
use Rattle.run.specs.Run.{outcome, settle, run_of}

module _ (n : ℕ) (q : ℕ → Equation) (C : ℕ → ℕ → ℤ) where
  -- the run after `done` of `allowance` steps, at the decision of the next one
  abbrev pub turned : ℕ → ℕ → Decision → Outcome
  turned allowance done d = settle d.what d.sides (done + 1) (run_of n q C (allowance - (done + 1)) (done + 1))

  pub run-turn : (allowance done : ℕ) (x : List Interval) {k : List Interval} {d : Decision} {o : Outcome}
      → done < allowance
      → k ≡ image_box n q C x → d ≡ decide_of n x k → run_of n q C (allowance - done) done x ≡ o
      → o ≡ turned allowance done d
  unfolding run_of
  run-turn allowance done x {d = d} l e g h =
      let s : allowance - done ≡ suc (allowance - (done + 1)) = omega arith in
      sym h ∙ rw s (ap (turned allowance done) (step_is n q C x ∙ sym (rw e at g)))

  pub run_end : (allowance done : ℕ) (x : List Interval) → done ≤ allowance → allowance ≤ done
      → run_of n q C (allowance - done) done x ≡ outcome Verdict.Spent allowance x
  unfolding run_of
  run_end allowance done x h l =
      let e : allowance - done ≡ 0 = omega arith in
      rw (e, le_antisymm h l)

module _ {n : ℕ} {q : ℕ → Equation} {C : ℕ → ℕ → ℤ} where
  -- the box of the next step
  pub next-box : (x : List Interval) {k : List Interval} {d : Decision} → StepIn n q C (side_at x)
      → k ≡ image_box n q C x → d ≡ decide_of n x k → d.what ≡ Move.Next → BoxIn n (side_at d.sides)
  unfolding image_box
  next-box x {k} {d} h e g w = rw g (next-in x k h.box order (sym (ap (λ (d : Decision). d.what) g) ∙ w))
    where
      order : (i : ℕ) → i < n → (side_at k i).lo ≤ℤ (side_at k i).hi
      order i l = rw (side-made n h.box.places (image_of n q C (side_at x)) e i l) (image-in h i l).order
