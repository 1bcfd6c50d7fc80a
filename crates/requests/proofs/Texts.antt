-- What is kept of a text and what is passed over are all of it.
use Prim.Native.Nat.{ℕ, ◌+◌}
use native.Mathlib.Omega.{arith}
use mathlib.Core.Path.{◌≡◌}
use Rattle.requests.specs.Packets.{kept_of, passed_of}

pub kept-passed : (length : ℕ) → kept_of length + passed_of length ≡ length
kept-passed length = omega arith
