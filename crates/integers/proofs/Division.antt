-- The language's `/` and `%` cut toward zero: how they give the division rounded down.
use mathlib.Core.Path.{◌≡◌, refl}
use mathlib.Core.Bool.{true, false}
use Prim.Native.Nat.{ℕ, zero, suc, ◌/◌, ◌%◌, ◌≤◌, ◌<◌}
use native.Mathlib.Nat.{div-add-mod, mod-lt}
use lib.IntN.{ℤ, pos, negsuc, neg_ℤ, nat_abs, ◌-ℤ◌}
use lib.Signed.{◌≤ℤ◌, ◌<ℤ◌, lt_z, quot_z, rem_z, shr_z, mag_rem, mag_shr}
use mir.Syntax.{Width}
use mir.Val.{SFits}
use mir.ValLaws.{sfits_le}
use Rattle.integers.specs.Rounding.{floor_by}
use Rattle.integers.specs.Ranges.{Within}
use Rattle.integers.proofs.Parts.{zorder, neg-pos_part, neg-neg_part}
use Rattle.integers.proofs.Linear.{zlin}
use Rattle.integers.proofs.Order.{lt_z-true, lt_z-false}
use Rattle.integers.proofs.Rounding.{floor-mono, floor-unique}

module _ (m : ℕ) (h : 0 < m) where
  -- rounded down: one less where the remainder is negative
  pub rem-neg : (x : ℤ) → lt_z (rem_z x (pos m)) (pos 0) ≡ true → quot_z x (pos m) -ℤ pos 1 ≡ floor_by m x
  rem-neg (pos a) e = absurd (no (a % m) (lt_z-true (pos (a % m)) (pos 0) e))
    where
      no : (r : ℕ) → pos r <ℤ pos 0 → ⊥
      no r k = omega zorder
  rem-neg (negsuc a) e = floor-unique m h (neg_ℤ (pos (suc a / m)) -ℤ pos 1) (negsuc a)
      (simp zlin
      (omega (
        zorder,
        div-add-mod (suc a) m,
        mod-lt (suc a) h,
        neg-pos_part (pos (suc a / m)),
        neg-neg_part (pos (suc a / m)),
      )))
      (simp zlin (omega (
        zorder,
        div-add-mod (suc a) m,
        k,
        neg-pos_part (pos (suc a / m)),
        neg-neg_part (pos (suc a / m)),
        neg-pos_part (pos (suc a % m)),
        neg-neg_part (pos (suc a % m)),
      )))
    where
      k : neg_ℤ (pos (suc a % m)) <ℤ pos 0
      k = lt_z-true (neg_ℤ (pos (suc a % m))) (pos 0) e

  pub rem-nonneg : (x : ℤ) → lt_z (rem_z x (pos m)) (pos 0) ≡ false → quot_z x (pos m) ≡ floor_by m x
  unfolding floor_by
  rem-nonneg (pos a) e = refl
  rem-nonneg (negsuc a) e = floor-unique m h (neg_ℤ (pos (suc a / m))) (negsuc a)
      (simp zlin (omega (
        zorder,
        div-add-mod (suc a) m,
        k,
        neg-pos_part (pos (suc a / m)),
        neg-neg_part (pos (suc a / m)),
        neg-pos_part (pos (suc a % m)),
        neg-neg_part (pos (suc a % m)),
      )))
      (simp zlin
      (omega (
        zorder,
        div-add-mod (suc a) m,
        mod-lt (suc a) h,
        neg-pos_part (pos (suc a / m)),
        neg-neg_part (pos (suc a / m)),
      )))
    where
      k : pos 0 ≤ℤ neg_ℤ (pos (suc a % m))
      k = lt_z-false (neg_ℤ (pos (suc a % m))) (pos 0) e

abs-neg-pos : (n : ℕ) → nat_abs (neg_ℤ (pos n)) ≡ n
abs-neg-pos zero = refl
abs-neg-pos (suc n) = refl

quot-abs : (x : ℤ) (m : ℕ) → nat_abs (quot_z x (pos m)) ≡ nat_abs x / m
quot-abs (pos a) m = refl
quot-abs (negsuc a) m = abs-neg-pos (suc a / m)

div_mono : (m : ℕ) → 0 < m → (a b : ℕ) → a ≤ b → a / m ≤ b / m
unfolding floor_by
div_mono m k a b h = let r : pos (a / m) ≤ℤ pos (b / m) = floor-mono m k (pos a) (pos b) (omega zorder) in omega zorder

pub quot-within : {x : ℤ} {A : ℕ} (m : ℕ) → 0 < m → Within x A → Within (quot_z x (pos m)) (A / m)
quot-within {x} {A} m k h = record { abs = rw quot-abs (div_mono m k (nat_abs x) A h.abs) }

-- the language's shift to the right rounds down
pub shr-fits : {w : Width} {z : ℤ} (m : ℕ) → SFits w z → SFits w (shr_z z m)
shr-fits {w} {z} m h = sfits_le (mag_shr z m) h

pub shr-floor : (m : ℕ) (x : ℤ) → shr_z x m ≡ floor_by m x
unfolding floor_by
shr-floor m (pos a) = refl
shr-floor m (negsuc a) = refl

pub rem-fits : {w : Width} {z : ℤ} (m : ℕ) → SFits w z → SFits w (rem_z z (pos m))
rem-fits {w} {z} m h = sfits_le (mag_rem z (pos m)) h
