use Prim.Native.Nat.{ℕ, ◌≤◌, ◌<◌}
use native.Mathlib.Omega.{arith}
use mathlib.Core.Path.{◌≡◌, refl}
use mir.Syntax.{w64}
use mir.Val.{SFits, to_z, of_z}
use mir.Facts.{to_z-of_z}
use lib.IntN.{ℤ, pos, negsuc, nat_abs}
use borrow.Author.Tests.{lt-ltb, le-ltb}
use Rattle.std.specs.Prelude.{Ok, Err}
use Rattle.std.specs.Int.{FitsUnsignedBits}
use Rattle.text.specs.Counts.{in_count}
use Rattle.text.specs.declared.Uncounted.{Uncounted}
use Rattle.text.proofs.in_count.Goals as goal

module _ (most : ℕ) (v : ℤ) (f : SFits w64 v) where
  kept : (m : ℕ) → FitsUnsignedBits 64 (to_z w64 (of_z w64 v)) → m ≡ nat_abs (to_z w64 (of_z w64 v)) → m ≤ most
      → Ok m ≡ in_count most v
  unfolding in_count
  kept m p e h = go v (rw (to_z-of_z f) at p) (rw (to_z-of_z f) at e)
    where
      go : (x : ℤ) → FitsUnsignedBits 64 x → m ≡ nat_abs x → Ok m ≡ in_count most x
      go (pos n) q i = rw (← i, le-ltb most m h)
      go (negsuc n) q i = absurd q

  beyond : (m : ℕ) → m ≡ nat_abs (to_z w64 (of_z w64 v)) → most < m → Err Uncounted.Out ≡ in_count most v
  unfolding in_count
  beyond m e h = go v (rw (to_z-of_z f) at e)
    where
      go : (x : ℤ) → m ≡ nat_abs x → Err Uncounted.Out ≡ in_count most x
      go (pos n) i = rw (← i, lt-ltb most m h)
      go (negsuc n) i = refl

  below : (FitsUnsignedBits 64 (to_z w64 (of_z w64 v)) → ⊥) → Err Uncounted.Out ≡ in_count most v
  unfolding in_count
  below n = go v f (rw (to_z-of_z f) at n)
    where
      go : (x : ℤ) → SFits w64 x → (FitsUnsignedBits 64 x → ⊥) → Err Uncounted.Out ≡ in_count most x
      go (pos k) s q = absurd (q (omega (arith, s.sfits)))
      go (negsuc k) s q = refl

pub returns-in-Ok : goal.returns-in-Ok
returns-in-Ok c =
    let h = c.in-Ok.ensures in
    kept c.args.most c.args.v c.ranges.v c.in-Ok.m h.0 h.1 c.if-m-most.true

pub returns-in_default : goal.returns-in_default
returns-in_default c =
    let h = c.in-Ok.ensures in
    beyond c.args.most c.args.v c.ranges.v c.in-Ok.m h.1 c.if-m-most.false

pub returns-in_default-2 : goal.returns-in_default-2
returns-in_default-2 c = below c.args.most c.args.v c.ranges.v c.in_default.ensures
