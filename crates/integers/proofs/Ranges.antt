-- A bound on a number, and how sums and products keep one; what fits 64 bits, by `search`.
use mathlib.Core.Path.{◌≡◌, refl}
use Prim.Native.Nat.{ℕ, zero, suc, ◌+◌, ◌*◌, ◌<◌, ◌^◌}
use native.Mathlib.Omega.{arith}
use native.Mathlib.Nat.{mul-le-mul, le_trans}
use lib.Dec.{T, leb, ltb, leb→le, ltb→lt}
use lib.IntN.{ℤ, pos, negsuc, neg_ℤ, nat_abs, ◌+ℤ◌, ◌-ℤ◌, ◌*ℤ◌}
use lib.Signed.{◌≤ℤ◌, mag}
use borrow.Author.Rules.{rules}
use mir.Syntax.{Width, w64}
use mir.Val.{SFits, hbits}
use Rattle.integers.specs.Ranges.{Within}
use Rattle.integers.proofs.Parts.{zorder, neg-pos_part, neg-neg_part}
use Rattle.integers.proofs.Linear.{zlin, abs-pn, abs-lq}

pub within : (z : ℤ) (B : ℕ) → neg_ℤ (pos B) ≤ℤ z → z ≤ℤ pos B → Within z B
within z B h k = record {
  abs = (abs-lq z B).1 (omega (
    zorder,
    neg-pos_part (pos B),
    neg-neg_part (pos B),
    neg-pos_part z,
    neg-neg_part z,
  ));
}

pub within-hi : {z : ℤ} {B : ℕ} → Within z B → z ≤ℤ pos B
within-hi {z} h = omega (zorder, abs-pn z)

pub within-lo : {z : ℤ} {B : ℕ} → Within z B → neg_ℤ (pos B) ≤ℤ z
within-lo {z} {B} h = omega (zorder, abs-pn z, neg-pos_part (pos B), neg-neg_part (pos B))

pub abs-neg_ℤ : (z : ℤ) → nat_abs (neg_ℤ z) ≡ nat_abs z
abs-neg_ℤ (pos zero) = refl
abs-neg_ℤ (pos (suc n)) = refl
abs-neg_ℤ (negsuc n) = refl

pub abs-*ℤ : (a b : ℤ) → nat_abs (a *ℤ b) ≡ nat_abs a * nat_abs b
abs-*ℤ (pos a) (pos b) = refl
abs-*ℤ (pos a) (negsuc b) = abs-neg_ℤ (pos (a * suc b))
abs-*ℤ (negsuc a) (pos b) = abs-neg_ℤ (pos (suc a * b))
abs-*ℤ (negsuc a) (negsuc b) = refl

pub within-add : {a b : ℤ} {A B : ℕ} → Within a A → Within b B → Within (a +ℤ b) (A + B)
within-add {a} {b} h k = record { abs = simp zlin (omega (arith, abs-pn a, abs-pn b)) }

pub within-neg : {a : ℤ} {A : ℕ} → Within a A → Within (neg_ℤ a) A
within-neg {a} h = record { abs = rw abs-neg_ℤ h.abs }

pub within-sub : {a b : ℤ} {A B : ℕ} → Within a A → Within b B → Within (a -ℤ b) (A + B)
within-sub h k = within-add h (within-neg k)

pub within-mul : {a b : ℤ} {A B : ℕ} → Within a A → Within b B → Within (a *ℤ b) (A * B)
within-mul {a} {b} h k = record { abs = rw abs-*ℤ (mul-le-mul h.abs k.abs) }

pub within-lit : (z : ℤ) (B : ℕ) → T (leb (nat_abs z) B) → Within z B
within-lit z B t = record { abs = leb→le (nat_abs z) B t }

pub within_more : {z : ℤ} {A : ℕ} (B : ℕ) → Within z A → T (leb A B) → Within z B
within_more {z} {A} B h t = record { abs = le_trans h.abs (leb→le A B t) }

pub within-mid : {a b z : ℤ} {B : ℕ} → Within a B → Within b B → a ≤ℤ z → z ≤ℤ b → Within z B
within-mid {a} {b} {z} {B} h k p q =
    record { abs = (abs-lq z B).1 (omega (zorder, abs-pn a, abs-pn b, neg-pos_part z, neg-neg_part z)) }

mag-abs : (z : ℤ) (H : ℕ) → nat_abs z < H → mag z < H
mag-abs (pos n) H h = h
mag-abs (negsuc n) H h = omega arith

pub fits : {w : Width} {z : ℤ} {B : ℕ} → Within z B → T (ltb B (2 ^ hbits w)) → SFits w z
fits {w} {z} {B} h t = record { sfits = mag-abs z (2 ^ hbits w) (omega (arith, ltb→lt B (2 ^ hbits w) t, h.abs)) }

-- what `search zneeds` closes: a sum, a difference or a product of numbers with a known bound fits
pub add-fits : {a b : ℤ} {A B : ℕ} → Within a A → Within b B → T (ltb (A + B) (2 ^ 63)) → SFits w64 (a +ℤ b)
add-fits h k t = fits (within-add h k) t

pub sub-fits : {a b : ℤ} {A B : ℕ} → Within a A → Within b B → T (ltb (A + B) (2 ^ 63)) → SFits w64 (a -ℤ b)
sub-fits h k t = fits (within-sub h k) t

pub mul-fits : {a b : ℤ} {A B : ℕ} → Within a A → Within b B → T (ltb (A * B) (2 ^ 63)) → SFits w64 (a *ℤ b)
mul-fits h k t = fits (within-mul h k) t

pub any-fits : {a : ℤ} {A : ℕ} → Within a A → T (ltb A (2 ^ 63)) → SFits w64 a
any-fits h t = fits h t

pub ruleset zneeds = (rules, mul-fits, add-fits, sub-fits, any-fits, within-mul, within-add, within-sub, within-neg)
