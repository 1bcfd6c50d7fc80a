-- A system's answers: the steps that a run begins, the zeros in the box of each step and answer, and the step that
-- says "unique".
use mathlib.Core.Path.{◌≡◌, ap}
use mathlib.Core.List.{List}
use mathlib.Core.Logic.{⊎_elim}
use Prim.Native.Nat.{ℕ, ◌-◌, ◌≤◌, ◌<◌}
use native.Mathlib.Omega.{arith}
use Rattle.intervals.specs.declared.Interval.{Interval}
use Rattle.intervals.specs.Places.{side_at}
use Rattle.jobs.specs.declared.Verdict.{Verdict}
use Rattle.step.specs.Step.{image_of}
use Rattle.step.specs.Meanings.{Strictly}
use Rattle.step.proofs.Hold.{image-at}
use Rattle.run.specs.declared.Outcome.{Outcome}
use Rattle.promises.specs.Claims.{Point, Lies, Same, Zero, Ordered, System, run_with}
use Rattle.promises.specs.Claims.{Begins, Reaches, StrictlyOn, UniqueStep}
use Rattle.promises.proofs.Contraction.{wide, contracts}
use Rattle.promises.proofs.Points.{same-zero, closer}
use Rattle.runs.proofs.Runs.{spent-or, more, whole-spent, run-count, run-stays, run-keeps}
use Rattle.promises.proofs.Verdicts.{sides-of, step-ordered, unique-reached, unique-answer}

module _ (s : System) where
  -- a step that a run begins: the run with the allowance before it decided nothing
  pub step-begun : (a t : ℕ) → t < (run_with s a).steps → Begins (run_with s) t (run_with s t).sides
  step-begun a t l = ⊎_elim (whole-spent s.n s.equations s.inverse t s.start)
      (λ decided. absurd (early decided)) (spent-or (run_with s t).verdict)
    where
      count : (b : ℕ) → (run_with s b).steps ≤ b
      count b = omega (arith, run-count s.n s.equations s.inverse b 0 s.start)

      early : ((run_with s t).verdict ≡ Verdict.Spent → ⊥) → ⊥
      early decided =
          let less : t ≤ a = omega (arith, count a) in
          let same : run_with s a ≡ run_with s t =
          rw (more less) (run-stays s.n s.equations s.inverse t (a - t) 0 s.start decided) in
          omega (arith, count t, ap (λ (o : Outcome). o.steps) same)

  module _ {p : Point} (zero : Zero s.n s.equations p) (lies : Lies s.n p s.start) where
    pub answer_keeps : (a : ℕ) → Lies s.n p (run_with s a).sides
    answer_keeps a =
        (run-keeps s.n s.equations s.inverse s.room s.degrees zero.each a 0 s.start lies).0

    pub answer-none : (a : ℕ) → (run_with s a).verdict ≡ Verdict.None → ⊥
    answer-none a =
        (run-keeps s.n s.equations s.inverse s.room s.degrees zero.each a 0 s.start lies).1

    pub step_keeps : {t : ℕ} {x : List Interval} → Begins (run_with s) t x → Lies s.n p x
    step_keeps {t} b = rw (sides-of s b) at (answer_keeps t)

  module _ (a : ℕ) (says : (run_with s a).verdict ≡ Verdict.Unique) where
    step : Reaches (run_with s) a (StrictlyOn s.n s.equations s.inverse)
    step = (unique-reached s a).0 says

    order : Ordered s.n (side_at step.x)
    order = step-ordered s step.begins

    strictly : Strictly s.n (side_at step.x) (image_of s.n s.equations s.inverse (side_at step.x))
    strictly i l = rw (image-at s.n s.room s.equations s.inverse step.x i l) at (step.holds i l)

    pub answer-same : {p r : Point} → Zero s.n s.equations p → Zero s.n s.equations r
        → Lies s.n p s.start → Lies s.n r s.start
        → Same s.n p r
    answer-same {p} {r} y z h g =
        same-zero s.n s.equations s.inverse step.x s.degrees order strictly p r
        (step_keeps y h step.begins) (step_keeps z g step.begins) y z

    pub answer-unique : UniqueStep s.n s.equations s.inverse (run_with s) (run_with s a)
    answer-unique = record {
      t = step.t;
      x = step.x;
      begins = step.begins;
      says = unique-answer s a step;
      strictly = step.holds;
      edges = wide s.n s.equations s.inverse (side_at step.x) s.degrees order strictly;
      closer = closer s.n s.equations s.inverse step.x s.degrees order strictly;
      sharper = record {
        within = λ P R d u v.
            contracts s.n s.equations s.inverse (side_at step.x) s.degrees order strictly
            {P = P} {R = R} {d = d} u v;
      };
    }
