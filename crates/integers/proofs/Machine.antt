-- Between the code's bits and the numbers: what a need has of an i64.
use mathlib.Core.Path.{◌≡◌, sym, ap, ◌∙◌}
use Prim.Native.Nat.{ℕ, ◌<◌, ◌^◌}
use native.Mathlib.Omega.{arith}
use lib.Dec.{T, ltb, ltb→lt}
use lib.IntN.{ℤ, pos, nat_abs}
use lib.Signed.{◌≤ℤ◌, mag, nat_abs-le, non_neg, yes_non_neg}
use mir.Syntax.{Width, w64}
use mir.Val.{SFits, Fits, to_z, of_z}
use mir.Facts.{to_z-of_z}
use mir.ValLaws.{to_z_pos}
use Rattle.integers.specs.Ranges.{Within}

-- what is read back from the bits of a number that fits is the number
pub back : {w : Width} {z : ℤ} → SFits w z → to_z w (of_z w z) ≡ z
back {w} {z} h = to_z-of_z h

-- the same at an i64, with the number written
pub ok : (z : ℤ) → mag z < 2 ^ 63 → SFits w64 z
ok z h = record { sfits = h }

pub sfits-within : {z : ℤ} → SFits w64 z → Within z 9223372036854775808
sfits-within {z} h = record { abs = nat_abs-le z h.sfits }

-- a call's result, as it is read back
pub got : {z y : ℤ} → mag z < 2 ^ 63 → z ≡ y → to_z w64 (of_z w64 z) ≡ y
got {z} h e = back (ok z h) ∙ e

-- an `==` on two i64 leaves a fact of the bits
pub eq-bits : {a b : ℤ} → SFits w64 a → SFits w64 b → of_z w64 a ≡ of_z w64 b → a ≡ b
eq-bits h k e = sym (back h) ∙ ap (to_z w64) e ∙ back k

-- an unsigned number, cast: its bits are the number
pub up : (m : ℕ) → m < 2 ^ 63 → to_z w64 m ≡ pos m
up m h = to_z_pos w64 m h

-- a signed number, cast to an unsigned type
pub down : {z : ℤ} {B : ℕ} → Within z B → pos 0 ≤ℤ z → T (ltb B (2 ^ 64)) → T (non_neg z) × Fits w64 (nat_abs z)
down {z} {B} w h t = (yes_non_neg h, record { fits = omega (arith, w.abs, ltb→lt B (2 ^ 64) t) })
