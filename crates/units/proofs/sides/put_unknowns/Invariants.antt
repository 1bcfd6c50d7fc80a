-- `units::sides::put_unknowns` meets its contract.
use Prim.Native.Nat.{ℕ, ◌+◌, ◌*◌, ◌≤◌}
use mathlib.Core.List.{List}
use lib.IntN.{ℤ}
use Rattle.writing.specs.Wrote.{Wrote}
use Rattle.units.specs.Show.{unknown_max, unknown_lines}
use Rattle.units.proofs.sides.put_unknowns.Given as goal

pub record Inv (old new : List ℕ) (lo hi : List ℤ) (at n p i : ℕ) : Type 0 where
  pub few : i ≤ n
  pub room : p ≤ at + unknown_max * i
  pub wrote : Wrote old new at p (unknown_lines i lo hi)

abbrev pub invariant-loop-i : goal.invariant-loop-i
invariant-loop-i l = Inv l.initial.buf l.buf l.lo l.hi l.at l.n l.p l.i
