-- The result of a run has no fault, from whatever box in range it began: its box lies in that one, with its ends in
-- order, and no more steps are counted than were allowed.
use Prim.Native.Nat.{ℕ, ◌≤◌, ◌<◌}
use native.Mathlib.Omega.{arith}
use mathlib.Core.Path.{◌≡◌, refl}
use mathlib.Core.List.{List}
use lib.ListN.{get_or}
use lib.IntN.{pos}
use Rattle.sizes.specs.Sizes.{n_max, steps_max, end_max}
use Rattle.lists.proofs.Tab.{get_or-tab}
use Rattle.intervals.specs.Places.{side_at}
use Rattle.checks.specs.Checks.{check_job}
use Rattle.checks.specs.CheckResult.{check_result}
use Rattle.checks.specs.Accepted.{Accepted}
use Rattle.checks.proofs.AcceptedLaws.{check_done}
use Rattle.term_checks.proofs.RangeLaws.{within_all, ordered-all}
use Rattle.checks.proofs.CheckResultLaws.{Sound, unfaulted}
use Rattle.intervals.specs.declared.Interval.{Interval}
use Rattle.jobs.specs.declared.Job.{Job}
use Rattle.faults.specs.Checked.{status_of}
use Rattle.faults.specs.Checks.{and_then}
use Rattle.checks.specs.Answered.{result_in}
use Rattle.systems.specs.Kinds.{equation_of}
use Rattle.slopes.specs.Ranges.{BoxIn}
use Rattle.step.specs.Values.{start_of, inverse_of, low_ends, high_ends}
use Rattle.step.proofs.Given.{start-in}
use Rattle.run.specs.declared.Outcome.{Outcome}
use Rattle.run.specs.Job.{run_from, outcome_of, result_of, run_job}
use Rattle.runs.proofs.Runs.{run-count}
use Rattle.runs.proofs.Left.{left_in}
use Rattle.std.specs.Prelude.{Ok}

module _ (j : Job) (checked : check_job j ≡ Ok tt) where
  accepted : Accepted j
  accepted = check_done j checked

  -- ---- from the box x on, with the allowance a
  module _ (x : List Interval) (box : BoxIn j.head.n (side_at x)) (a : ℕ) where
    abbrev o : Outcome
    o = run_from j x a

    module _ (k : ℕ) (l : k < j.head.n) where
      low-at : get_or (low_ends j.head.n o.sides) k (pos 0) ≡ (side_at o.sides k).lo
      low-at = get_or-tab (pos 0) n_max j.head.n (λ k. (side_at o.sides k).lo) (pos 0) k l accepted.few

      high-at : get_or (high_ends j.head.n o.sides) k (pos 0) ≡ (side_at o.sides k).hi
      high-at = get_or-tab (pos 0) n_max j.head.n (λ k. (side_at o.sides k).hi) (pos 0) k l accepted.few

    module _ (few : a ≤ steps_max) where
      from-sound : Sound (result_of j o)
      unfolding result_of
      from-sound = record {
        number = accepted.number;
        visit = omega arith;
        steps = omega (arith, run-count j.head.n (equation_of j) (inverse_of j) a 0 x, few);
        some = accepted.some;
        few = accepted.few;
        low = within_all _ j.head.n end_max (λ k l. rw (low-at k l) ((left_in j accepted x box a).each k l).low);
        high = within_all _ j.head.n end_max (λ k l. rw (high-at k l) ((left_in j accepted x box a).each k l).high);
        ordered = ordered-all _ _ j.head.n
            (λ k l. rw (low-at k l, high-at k l) ((left_in j accepted x box a).each k l).order);
      }

      pub from-checked : check_result (result_of j o) ≡ Ok tt
      from-checked = unfaulted (result_of j o) from-sound

  -- ---- from its own box, with its own allowance
  pub result-checked : check_result (result_of j (outcome_of j)) ≡ Ok tt
  unfolding outcome_of
  result-checked = from-checked (start_of j) (start-in accepted) j.steps accepted.steps

  pub run-done : status_of (run_job j) ≡ Ok tt
  unfolding run_job and_then
  run-done = rw checked refl

  pub run-checked : check_result (result_in (run_job j)) ≡ Ok tt
  unfolding run_job and_then
  run-checked = rw checked result-checked
