-- `writing::digits_of` meets its contract.
use Prim.Native.Nat.{ℕ, ◌^◌, ◌≤◌, ◌<◌}
use mathlib.Core.Path.{◌≡◌}
use lib.ListN.{length}
use Rattle.digits.specs.Show.{show_magnitude}
use Rattle.writing.proofs.digits_of.Given as goal

pub record Inv (m k bound i : ℕ) : Type 0 where
  pub power : bound ≡ 10 ^ i
  pub low : 0 < i → 10 ^ i ≤ m
  pub room : i ≤ length (show_magnitude k m)

abbrev pub invariant-loop-i : goal.invariant-loop-i
invariant-loop-i l = Inv l.m l.k l.bound l.i
