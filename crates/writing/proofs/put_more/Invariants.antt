-- `writing::put_more` meets its contract.
use Prim.Native.Nat.{ℕ, ◌+◌, ◌*◌, ◌≤◌}
use mathlib.Core.List.{List}
use lib.IntN.{ℤ}
use Rattle.writing.specs.Wrote.{Wrote}
use Rattle.writing.proofs.Lists.{first_more}
use Rattle.writing.proofs.put_more.Given as goal

-- what is written, and its room
pub record Inv (old new : List ℕ) (xs : List ℤ) (k at p i : ℕ) : Type 0 where
  pub room : p ≤ at + (k + 2) * i
  pub wrote : Wrote old new at p (first_more k i xs)

abbrev pub invariant-loop-v : goal.invariant-loop-v
invariant-loop-v l = Inv l.initial.buf l.buf l.xs l.k l.at l.p l.v-index
