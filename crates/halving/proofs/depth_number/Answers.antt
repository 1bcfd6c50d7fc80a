-- depth_number: a depth below 0 is refused, and one beyond the greatest.
use mathlib.Core.Path.{◌≡◌}
use mir.Facts.{to_z-of_z}
use Rattle.faults.specs.declared.Fault.{Fault}
use Rattle.faults.specs.Checked.{Status, refused}
use Rattle.faults.specs.Checks.{and_then}
use Rattle.halving.specs.Halving.{depth_status}
use Rattle.halving.proofs.Refusals.{depth-negative, depth-beyond, depth-fine}
use Rattle.halving.proofs.depth_number.Goals as goal
use Rattle.halving.proofs.depth_number.Goals.{then-depth-lt0-via-then-depth-lt0, then-depth-lt0-via-else-depth-lt0+then-depth-gt-DEPTH}

pub returns-then-depth-lt0 : goal.returns-then-depth-lt0
unfolding and_then
returns-then-depth-lt0 c =
    let e = to_z-of_z c.ranges.depth in
    let told : ◌≡◌ {A = Status} (refused Fault.Steps 0) (depth_status c.args.depth) =
    elim c.then-depth-lt0.branch [
      | then-depth-lt0-via-then-depth-lt0 w ↦ depth-negative _ (rw e at w.if-depth-lt0.true)
      | then-depth-lt0-via-else-depth-lt0+then-depth-gt-DEPTH w ↦
          depth-beyond _ (rw e at w.if-depth-lt0.false) (rw e at w.if-depth-gt-DEPTH.true)
    ] in
    rw (← told) c.refused.ensures

pub returns : goal.returns
unfolding and_then
returns c =
    let e = to_z-of_z c.ranges.depth in
    rw (e, ← depth-fine c.args.depth (rw e at c.if-depth-lt0.false) (rw e at c.if-depth-gt-DEPTH.false))
