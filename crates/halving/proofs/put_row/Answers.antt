-- put_row: the row stands in its places, and every other number is the old one.
use Prim.Native.Nat.{◌+◌, ◌-◌}
use mathlib.Core.Path.{◌≡◌}
use native.Mathlib.Omega.{arith}
use lib.ListN.{length}
use Rattle.sizes.specs.Sizes.{n_max}
use Rattle.halving.proofs.Put.{put-copied}
use Rattle.halving.proofs.put_row.Goals as goal

pub returns : goal.returns
returns c =
    let at = c.args.at in
    let size : length c.args.row ≡ n_max = omega arith in
    rw size at
    (put-copied {old = c.args.list.now} at (at + n_max - at) c.copy_from_slice.ensures.after (omega arith) (omega arith))
