-- `decimals::put_decimals` meets its contract.
use Prim.Native.Nat.{ℕ, ◌+◌, ◌-◌, ◌≤◌, ◌<◌}
use mathlib.Core.Path.{◌≡◌}
use mathlib.Core.List.{List, ◌++◌}
use Rattle.writing.specs.Wrote.{Wrote}
use Rattle.decimals.specs.Units.{unit, decimals_max, decimals}
use Rattle.decimals.proofs.put_decimals.Given as goal

-- what is written, and what is still to come
pub record Inv (old new : List ℕ) (at r p left k : ℕ) : Type 0 where
  pub few : k ≤ decimals_max
  pub small : left < unit
  pub room : p ≤ at + k
  pub done : List ℕ
  pub wrote : Wrote old new at p done
  pub whole : done ++ decimals (decimals_max - k) left ≡ decimals decimals_max r

abbrev pub invariant-loop-k : goal.invariant-loop-k
invariant-loop-k l = Inv l.initial.buf l.buf l.at l.r l.p l.left l._k
