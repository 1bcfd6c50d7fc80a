-- How long the lines in units are at most, and that the ends that they show have nine digits of marks.
use Prim.Native.Nat.{ℕ, suc, ◌+◌, ◌*◌, ◌≤◌, ◌<◌, ◌^◌}
use native.Mathlib.Omega.{arith}
use mathlib.Core.List.{List, ◌++◌}
use lib.ListN.{length, get_or, length-append}
use lib.IntN.{ℤ, pos, negsuc, nat_abs}
use Rattle.digits.specs.Number.{digits_max}
use Rattle.digits.proofs.Show.{show-short}
use Rattle.lists.proofs.Tab.{get_or-tab, length-tab}
use Rattle.reading.specs.NumberLines.{placed}
use Rattle.text.specs.Lists.{Small}
use Rattle.writing.specs.Wrote.{line}
use Rattle.writing.proofs.Lists.{below_at}
use Rattle.decimals.specs.Units.{decimals_max, show_units}
use Rattle.units.specs.Show.{to_word, unknown_max, show_ends, unknown_line}
use Rattle.decimals.proofs.Decimals.{size-short}

pub units-short : (v : ℤ) → length (show_units v) ≤ 2 + digits_max + decimals_max
unfolding show_units
units-short (pos m) = omega (arith, size-short m)
units-short (negsuc m) = omega (arith, size-short (suc m))

pub ends-short : (lo hi : ℤ) → length (show_ends lo hi) ≤ 8 + 2 * (digits_max + decimals_max)
unfolding show_ends
ends-short lo hi =
    rw (length-append (show_units lo ++ to_word) (show_units hi), length-append (show_units lo) to_word)
    (omega (arith, units-short lo, units-short hi))

pub unknown-short : (k : ℕ) (lo hi : ℤ) → length (unknown_line k lo hi) ≤ unknown_max
unfolding unknown_line line
unknown-short k lo hi =
    simp length-append (omega (arith, show-short digits_max k, ends-short lo hi))

pub small-live : (xs : List ℤ) (n i : ℕ) → Small (placed n n xs) → i < n
    → nat_abs (get_or xs i (pos 0)) < 10 ^ digits_max
small-live xs n i s h =
    rw (get_or-tab (pos 0) n n (λ k. get_or xs k (pos 0)) (pos 0) i h (omega arith)) at
    (below_at digits_max (placed n n xs) i s (omega (arith, length-tab (pos 0) n n (λ k. get_or xs k (pos 0)))))
