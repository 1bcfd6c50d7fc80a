-- `scan::lines::numbers_at` meets its contract.
use Prim.Native.Nat.{◌-◌}
use lib.ListN.{length}
use Rattle.scan.proofs.Listing.{Inv}
use Rattle.scan.proofs.lines.numbers_at.Given as goal

abbrev pub invariant-loop-number : goal.invariant-loop-number
invariant-loop-number l = Inv l.s l.from l.initial.vals l.vals l.a l.count

abbrev pub decreases-loop-number : goal.decreases-loop-number
decreases-loop-number l = length l.s - l.a
