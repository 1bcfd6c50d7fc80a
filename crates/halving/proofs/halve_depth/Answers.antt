-- halve_depth: a depth that is not refused is at most the greatest.
use mathlib.Core.Path.{sym, ◌∙◌}
use mir.Facts.{to_z-of_z}
use Rattle.faults.proofs.Laws.{then-done, then-value}
use Rattle.halving.specs.Halving.{depth_status}
use Rattle.halving.proofs.Refusals.{depth-few}
use Rattle.halving.proofs.halve_depth.Goals as goal

pub room_status-requires : goal.room_status-requires
room_status-requires c =
    let depth = c.args.depth in
    let told = rw (to_z-of_z c.ranges.depth) at (sym c.depth_number.ensures ∙ c.in_ok-deep.was) in
    rw (then-value (depth_status depth) _ told) (depth-few depth (then-done (depth_status depth) _ told))
