-- put_all: the head, and each turn one box more.
use Prim.Native.Nat.{ℕ, ◌+◌, ◌*◌, ◌≤◌}
use mathlib.Core.List.{List}
use lib.IntN.{ℤ}
use Rattle.writing.specs.Wrote.{Wrote}
use Rattle.listing.specs.declared.Listing.{Listing}
use Rattle.listing.specs.Lines.{first_lines, piece_max}
use Rattle.listing.proofs.put_all.Given as goal

pub record Inv (l : Listing) (list : List ℤ) (old new : List ℕ) (first at i : ℕ) : Type 0 where
  pub live : i ≤ l.boxes
  pub wrote : Wrote old new first at (first_lines l.n list i)
  pub short : at ≤ first + piece_max * i

abbrev pub invariant-loop-i : goal.invariant-loop-i
invariant-loop-i l = Inv l.l l.list l.initial.buf l.buf l.initial.at l.at l.i
