-- What a run leaves, from whatever box in range it began: its box lies in that one, with its ends in order, so that it
-- can be run from again.
use Prim.Native.Nat.{ℕ, ◌<◌, ◌≤◌}
use mathlib.Core.Path.{◌≡◌}
use mathlib.Core.List.{List}
use lib.IntN.{ℤ}
use lib.ListN.{length}
use Rattle.sizes.specs.Sizes.{n_max, end_max}
use Rattle.integers.proofs.Parts.{zorder}
use Rattle.integers.proofs.Ranges.{within, within-lo, within-hi}
use Rattle.intervals.specs.declared.Interval.{Interval}
use Rattle.intervals.specs.Places.{side_at}
use Rattle.intervals.specs.Ranges.{InI}
use Rattle.jobs.specs.declared.Equation.{Equation}
use Rattle.jobs.specs.declared.Job.{Job}
use Rattle.jobs.specs.declared.Kind.{Kind}
use Rattle.checks.specs.Accepted.{GoodSystem, Accepted}
use Rattle.slopes.specs.Fractions.{DegreesIn}
use Rattle.slopes.specs.Ranges.{BoxIn}
use Rattle.systems.specs.Kinds.{equation_by, equation_of}
use Rattle.systems.proofs.Formulas.{equation-degrees}
use Rattle.step.specs.Ranges.{StepIn}
use Rattle.step.specs.Values.{inverse_of}
use Rattle.run.specs.declared.Outcome.{Outcome}
use Rattle.run.specs.Job.{run_from}
use Rattle.run.specs.Run.{run_of}
use Rattle.runs.specs.Boxes.{Ordered, BoxInside}
use Rattle.runs.proofs.Runs.{run-shrinks, run-ordered, run_length}

-- ---- n equations of right degrees, from the box x on, with the allowance a
module _ (n : ℕ) (q : ℕ → Equation) (C : ℕ → ℕ → ℤ) (few : n ≤ n_max)
    (degrees : (i : ℕ) → i < n → DegreesIn n (q i)) (x : List Interval) (box : BoxIn n (side_at x)) (a : ℕ) where
  abbrev o : Outcome
  o = run_of n q C a 0 x

  inside : BoxInside n o.sides x
  inside = run-shrinks n q C few a 0 x

  ordered : Ordered n (side_at o.sides)
  ordered = run-ordered n q C few degrees a 0 x (λ k l. (box.each k l).order)

  -- each side is in range
  kept : (k : ℕ) → k < n → InI end_max (side_at o.sides k)
  kept k l = record {
    order = ordered k l;
    low = within _ end_max (omega (zorder, (inside.each k l).low, within-lo (box.each k l).low))
        (omega (zorder, ordered k l, (inside.each k l).high, within-hi (box.each k l).high));
    high = within _ end_max
        (omega (zorder, ordered k l, (inside.each k l).low, within-lo (box.each k l).low))
        (omega (zorder, (inside.each k l).high, within-hi (box.each k l).high));
  }

  kept_in : BoxIn n (side_at o.sides)
  kept_in = record { places = few; each = kept }

-- of what a step takes
pub step_left : {n : ℕ} {q : ℕ → Equation} {C : ℕ → ℕ → ℤ} (x : List Interval) → StepIn n q C (side_at x) → (a : ℕ)
    → BoxIn n (side_at (run_of n q C a 0 x).sides)
step_left {n} {q} {C} x h a =
    kept_in n q C h.box.places (λ i l. record { each = λ t u. ((h.system.each i l).each t u).deg }) x h.box a

-- ---- an accepted job
module _ (j : Job) (accepted : Accepted j) where
  given-degrees : (i : ℕ)
      → i < j.head.n → j.head.kind ≡ Kind.Poly → DegreesIn j.head.n (equation_by Kind.Poly j i)
  given-degrees i l e =
      let good : GoodSystem Kind.Poly j i = rw e at (accepted.system i l) in
      record { each = good.deg }

  pub job-degrees : (i : ℕ) → i < j.head.n → DegreesIn j.head.n (equation_of j i)
  job-degrees i l = equation-degrees j accepted.few accepted.pin i l (given-degrees i l)

  pub left_in : (x : List Interval) → BoxIn j.head.n (side_at x) → (a : ℕ)
      → BoxIn j.head.n (side_at (run_from j x a).sides)
  left_in = kept_in j.head.n (equation_of j) (inverse_of j) accepted.few job-degrees

  pub left-length : (x : List Interval) → length x ≡ n_max → (a : ℕ) → length (run_from j x a).sides ≡ n_max
  left-length x e a = run_length j.head.n (equation_of j) (inverse_of j) a 0 x e
