-- widest: each turn compares one edge more.
use mathlib.Core.Path.{◌≡◌}
use Prim.Native.Nat.{◌≤◌}
use Rattle.edges.specs.Edges.{widest_of}
use Rattle.edges.proofs.widest.Given as goal

abbrev pub invariant-loop-i : goal.invariant-loop-i
invariant-loop-i l = record { reached : l.k ≤ l.i; found : l.k ≡ widest_of l.i l.x }
