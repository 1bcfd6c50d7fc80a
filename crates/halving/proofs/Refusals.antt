-- The refusals, as the code's tests leave them, and what is known where nothing is refused.
use Prim.Native.Nat.{ℕ, ◌*◌, ◌/◌, ◌%◌, ◌^◌, ◌≤◌, ◌<◌}
use native.Mathlib.Nat.{one-mul}
use native.Mathlib.Omega.{arith}
use mathlib.Core.Path.{◌≡◌, refl, sym, ◌∙◌}
use mathlib.Core.Bool.{true, false, true≢false}
use lib.Dec.{leb}
use lib.IntN.{ℤ, pos, negsuc, nat_abs}
use lib.Pow.{shl_exact}
use lib.Signed.{lt_z}
use borrow.Author.Tests.{ltb-true, leb-true, le-leb, lt-leb}
use Rattle.sizes.specs.Sizes.{depth_max}
use Rattle.faults.specs.Checks.{bad_unless, on_line}
use Rattle.faults.specs.declared.Fault.{Fault}
use Rattle.faults.specs.Checked.{refused}
use Rattle.faults.proofs.Laws.{fine-line, unless-fine}
use Rattle.halving.specs.Lists.{listed_places}
use Rattle.halving.specs.Halving.{depth_in, depth_status, room_status}
use Rattle.std.specs.Prelude.{Ok}

-- ---- the depth
negative : (depth : ℤ) → lt_z depth (pos 0) ≡ true → depth_in depth ≡ false
negative (pos d) t = absurd (omega (arith, ltb-true d 0 t))
negative (negsuc d) t = refl

counted : (depth : ℤ) → lt_z depth (pos 0) ≡ false → depth_in depth ≡ leb (nat_abs depth) depth_max
counted (pos d) t = refl
counted (negsuc d) t = absurd (true≢false t)

module _ (depth : ℤ) where
  pub depth-negative : lt_z depth (pos 0) ≡ true → refused Fault.Steps 0 ≡ depth_status depth
  unfolding depth_status bad_unless on_line
  depth-negative t = rw (negative depth t)

  pub depth-beyond : lt_z depth (pos 0) ≡ false → depth_max < nat_abs depth
      → refused Fault.Steps 0 ≡ depth_status depth
  unfolding depth_status bad_unless on_line
  depth-beyond t h = rw (counted depth t, lt-leb (nat_abs depth) depth_max h)

  pub depth-fine : lt_z depth (pos 0) ≡ false → nat_abs depth ≤ depth_max → Ok tt ≡ depth_status depth
  unfolding depth_status bad_unless on_line
  depth-fine t h = rw (counted depth t, le-leb (nat_abs depth) depth_max h)

  in-range : depth_status depth ≡ Ok tt → depth_in depth ≡ true
  unfolding depth_status
  in-range e = unless-fine (depth_in depth) Fault.Steps (fine-line _ 0 e)

-- a depth that is not refused
pub depth-few : (depth : ℤ) → depth_status depth ≡ Ok tt → nat_abs depth ≤ depth_max
depth-few (pos d) e = leb-true d depth_max (in-range (pos d) e)
depth-few (negsuc d) e = absurd (true≢false (sym (in-range (negsuc d) e)))

-- ---- the room
module _ (depth room : ℕ) where
  pub shifted : depth ≤ depth_max → (1 * 2 ^ depth) % 2 ^ 64 ≡ 2 ^ depth
  shifted l = shl_exact 1 depth 64 (omega arith) (omega arith) ∙ one-mul (2 ^ depth)

  pub room-holds : room_status depth room ≡ Ok tt → listed_places * 2 ^ depth ≤ room
  unfolding room_status
  room-holds e =
      let h = leb-true (2 ^ depth) (room / listed_places) (unless-fine _ Fault.ShortBuffer (fine-line _ 0 e)) in
      omega arith
