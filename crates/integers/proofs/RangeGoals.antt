-- How ranges are used: `fits` of a bound that is computed from the parts' bounds, or `search zneeds` over bounds that
-- are in scope.
use lib.IntN.{ℤ, ◌+ℤ◌, ◌*ℤ◌}
use mir.Syntax.{w64}
use mir.Val.{SFits}
use Rattle.integers.specs.Ranges.{Within}
use Rattle.integers.proofs.Ranges.{fits, within-add, within-mul, within_more, zneeds}

two_products : (a b c d : ℤ)
    → Within a 4194304 → Within b 4294967296 → Within c 4194304 → Within d 4294967296 → SFits w64 (a *ℤ b +ℤ c *ℤ d)
two_products a b c d h k l m = fits (within-add (within-mul h k) (within-mul l m)) tt

found : (a b : ℤ) → Within a 262144 → Within b 262144 → SFits w64 (a *ℤ b)
found a b h k = search zneeds

weaker : (a : ℤ) → Within a 262144 → Within a 4194304
weaker a h = within_more 4194304 h tt
