use Prim.Native.Nat.{ℕ, ◌≤◌}
use mathlib.Core.Path.{◌≡◌}
use mathlib.Core.List.{List}
use lib.ListN.{length, drop}
use Rattle.text.specs.Keys.{starts_with}
use Rattle.text.proofs.starts.Given as goal

pub record Inv (l key : List ℕ) (i : ℕ) : Type 0 where
  pub room : length key ≤ length l
  pub same : starts_with (drop i key) (drop i l) ≡ starts_with key l

abbrev pub invariant-loop-i : goal.invariant-loop-i
invariant-loop-i l = Inv l.l l.key l.i
