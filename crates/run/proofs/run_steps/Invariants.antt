-- run_steps: the run from here on equals the whole run, and the box stays in range. Within a turn F and S are filled
-- equation by equation, in the places of those before.
use mathlib.Core.Path.{◌≡◌}
use Prim.Native.Nat.{◌≤◌, ◌-◌}
use Rattle.intervals.specs.Places.{entry_at, side_at}
use Rattle.jobs.specs.Places.{equation_at}
use Rattle.step.specs.Ranges.{StepIn}
use Rattle.step.proofs.Filled.{Filled, Room}
use Rattle.run.specs.Run.{run_of}
use Rattle.run.proofs.run_steps.Given as goal

abbrev pub invariant-loop-i : goal.invariant-loop-i
invariant-loop-i l = Filled l.n l.i (equation_at l.eqs) (side_at l.m) (side_at l.x) l.f l.s

abbrev pub decreases-loop-i : goal.decreases-loop-i
decreases-loop-i l = l.n - l.i

abbrev pub invariant-loop-done : goal.invariant-loop-done
invariant-loop-done l =
    let q = equation_at l.eqs in
    ((l.done ≤ l.allowance) × Room l.n l.f l.s) × (StepIn l.n q (entry_at l.c) (side_at l.x)
    × (run_of l.n q (entry_at l.c) (l.allowance - l.done) l.done l.x
    ≡ run_of l.n q (entry_at l.c) l.allowance 0 l.initial.x))

abbrev pub decreases-loop-done : goal.decreases-loop-done
decreases-loop-done l = l.allowance - l.done
