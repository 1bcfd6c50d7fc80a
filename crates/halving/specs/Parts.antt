-- What becomes of a box that was run, as the code asks it.
use Rattle.std.specs.Prelude.{cond, List, ℕ, eqb}
use Rattle.intervals.specs.declared.Interval.{Interval}
use Rattle.intervals.specs.Places.{entry_at}
use Rattle.jobs.specs.Places.{equation_at}
use Rattle.jobs.specs.declared.Verdict.{Verdict}
use Rattle.edges.specs.Edges.{is_wide}
use Rattle.run.specs.Run.{run_of}
use Rattle.run.specs.declared.Outcome.{Outcome}
use Rattle.halving.specs.declared.Part.{Part}
use Rattle.halving.specs.declared.Returned.{Returned}
use Rattle.halving.specs.declared.Shared.{Shared}

-- "If depth is left and its widest edge .. is at least 2 marks, cut that edge ..; else list it as open."
unfoldable pub undecided_part : ℕ → List Interval → ℕ → Part
undecided_part n x depth = cond (eqb depth 0) Part.Open (cond (is_wide n x) Part.Cut Part.Open)

-- "drop the box on none, list it on unique."
abbrev pub part_by : Verdict → Part → Part
part_by Verdict.None undecided = Part.Dropped
part_by Verdict.Unique undecided = Part.Unique
part_by Verdict.Stalled undecided = undecided
part_by Verdict.Spent undecided = undecided

unfoldable pub part_of : Verdict → ℕ → List Interval → ℕ → Part
part_of verdict n x depth = part_by verdict (undecided_part n x depth)

-- the run of the box x with its equations and its inverse made
abbrev pub run_by : Shared → List Interval → Outcome
run_by s x = run_of s.n (equation_at s.eqs) (entry_at s.c) s.steps 0 x

-- the box that a run returned, and what becomes of it
abbrev pub ran_as : Outcome → ℕ → ℕ → Returned
ran_as o n depth = record { part = part_of o.verdict n o.sides depth; sides = o.sides }
