-- "With these sizes every sum of products below fits a signed 64-bit number", and can be rounded up: the last product
-- of a term, then the sums of D, B and E.
use Prim.Native.Nat.{◌+◌, ◌*◌, ◌≤◌}
use lib.Dec.{lit≤}
use Rattle.sizes.specs.Sizes.{mark, n_max, entry_max, image_max}
use Rattle.sizes.specs.Bounds.{term_max, value_max, slope_max, z_max, b_max, k_max, up_max}

pub term-room : mark * term_max ≤ up_max
term-room = lit≤ tt

pub d-room : n_max * (entry_max * value_max) ≤ up_max
d-room = lit≤ tt

pub b-room : mark * mark + n_max * (entry_max * slope_max) ≤ up_max
b-room = lit≤ tt

pub e-room : n_max * (b_max * z_max) ≤ up_max
e-room = lit≤ tt

-- P7: an image of the step can be handed in again
pub image-room : k_max ≤ image_max
image-room = lit≤ tt
