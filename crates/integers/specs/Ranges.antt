-- A bound on a number's size: -B ≤ z ≤ B. A record, so that `search` finds it by its two arguments.
use Rattle.std.specs.Prelude.{ℕ, ◌≤◌, ℤ, nat_abs}

pub record Within (z : ℤ) (B : ℕ) : Type 0 where
  pub abs : nat_abs z ≤ B
