-- `writing::put_magnitude` meets its contract.
use Prim.Native.Nat.{ℕ, ◌-◌, ◌≤◌}
use mathlib.Core.Path.{◌≡◌}
use mathlib.Core.List.{List, ◌++◌}
use lib.ListN.{length}
use lib.Seq.{sets}
use Rattle.digits.specs.Show.{show_magnitude}
use Rattle.writing.proofs.put_magnitude.Given as goal

-- from p on the last digits stand; `left` has those between `at` and p
pub record Inv (old new text : List ℕ) (at end left p : ℕ) : Type 0 where
  pub low : at ≤ p
  pub high : p ≤ end
  pub full : length (show_magnitude (p - at) left) ≡ p - at
  pub done : List ℕ
  pub stands : new ≡ sets old p done
  pub whole : show_magnitude (p - at) left ++ done ≡ text

abbrev pub invariant-loop-p : goal.invariant-loop-p
invariant-loop-p l = Inv l.initial.buf l.buf (show_magnitude l.k l.m) l.at l.end l.left l.p
