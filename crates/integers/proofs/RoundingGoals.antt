-- How rounding is used: its two sides pin it, and with `floor-greatest` and `ceil-least` every order is an order of
-- products.
use mathlib.Core.Path.{◌≡◌, refl}
use lib.Dec.{lit<}
use lib.IntN.{ℤ, pos, negsuc, ◌*ℤ◌}
use Rattle.integers.specs.Rounding.{floor_by, ceil_by}
use Rattle.integers.proofs.Parts.{zorder}
use Rattle.integers.proofs.Linear.{zlin}
use Rattle.integers.proofs.Rounding.{floor-unique}

-- -3 over 65,536 is -1 rounded down and 0 rounded up
below-zero : floor_by 65536 (negsuc 2) ≡ negsuc 0
unfolding floor_by
below-zero = refl

above-below-zero : ceil_by 65536 (negsuc 2) ≡ pos 0
unfolding ceil_by floor_by
above-below-zero = refl

-- half of an even number needs no rounding
half : (x : ℤ) → x ≡ floor_by 2 (pos 2 *ℤ x)
half x = floor-unique 2 (lit< tt) x (pos 2 *ℤ x) (simp zlin (omega zorder)) (simp zlin (omega zorder))
