-- Linear arithmetic of integers by omega. `simp zlin` takes an order, an equation or a range of integers to one of
-- naturals: it moves all to the left, flattens the sum, and hands each summand x over as pos_part x on one side and
-- neg_part x on the
-- other.
use mathlib.Core.Path.{◌≡◌, refl, sym, ap, ◌∙◌}
use mathlib.Core.Logic.{◌↔◌}
use Prim.Native.Nat.{ℕ, suc, ◌+◌, ◌*◌, ◌≤◌, ◌<◌, ◌^◌}
use native.Mathlib.Omega.{arith}
use native.Mathlib.Nat.{mul-zero}
use lib.IntN.{ℤ, pos, negsuc, neg_ℤ, nat_abs, ◌+ℤ◌, ◌-ℤ◌, ◌*ℤ◌, +ℤ_assoc, neg_ℤ-+ℤ, neg_ℤ-neg_ℤ, *ℤ_comm}
use lib.Signed.{◌≤ℤ◌, ◌<ℤ◌, mag}
use mir.Syntax.{Width}
use mir.Val.{SFits, hbits}
use Rattle.integers.proofs.Commutative.{*ℤ-distrib-l, *ℤ-distrib-r, neg-*ℤ, *ℤ-neg}
use Rattle.integers.proofs.Parts.{pos_part, neg_part, add-pn, neg-pos_part, neg-neg_part, zorder}

pub sub-pn : (a b : ℤ) → pos_part (a -ℤ b) + (neg_part a + pos_part b) ≡ neg_part (a -ℤ b) + (pos_part a + neg_part b)
sub-pn a b = omega (arith, add-pn a (neg_ℤ b), neg-pos_part b, neg-neg_part b)

pub le-lq : (a b : ℤ) → (a ≤ℤ b) ↔ (pos_part (a -ℤ b) + 0 ≤ neg_part (a -ℤ b) + 0)
le-lq a b = ((λ h. omega (zorder, sub-pn a b)), λ h. omega (zorder, sub-pn a b))

pub lt-lq : (a b : ℤ) → (a <ℤ b) ↔ (pos_part (a -ℤ b) + 1 ≤ neg_part (a -ℤ b) + 0)
lt-lq a b = ((λ h. omega (zorder, sub-pn a b)), λ h. omega (zorder, sub-pn a b))

pub eq-lq : (a b : ℤ) → (a ≡ b) ↔ (pos_part (a -ℤ b) + 0 ≡ neg_part (a -ℤ b) + 0)
eq-lq a b = ((λ h. omega (zorder, sub-pn a b)), λ h. omega (zorder, sub-pn a b))

-- a sum at the first, second or third place of either side, taken apart
pub lq-add1p : (a b : ℤ) (u v : ℕ) → (pos_part (a +ℤ b) + u ≤ neg_part (a +ℤ b) + v) ↔
    (pos_part a + (pos_part b + u) ≤ neg_part a + (neg_part b + v))
lq-add1p a b u v = ((λ h. omega (arith, add-pn a b)), λ h. omega (arith, add-pn a b))

pub lq-add1n : (a b : ℤ) (u v : ℕ) → (neg_part (a +ℤ b) + u ≤ pos_part (a +ℤ b) + v) ↔
    (neg_part a + (neg_part b + u) ≤ pos_part a + (pos_part b + v))
lq-add1n a b u v = ((λ h. omega (arith, add-pn a b)), λ h. omega (arith, add-pn a b))

pub lq-add2p : (a b : ℤ) (x y u v : ℕ)
    → (x + (pos_part (a +ℤ b) + u) ≤ y + (neg_part (a +ℤ b) + v)) ↔
    (pos_part a + (pos_part b + (x + u)) ≤ neg_part a + (neg_part b + (y + v)))
lq-add2p a b x y u v = ((λ h. omega (arith, add-pn a b)), λ h. omega (arith, add-pn a b))

pub lq-add2n : (a b : ℤ) (x y u v : ℕ)
    → (x + (neg_part (a +ℤ b) + u) ≤ y + (pos_part (a +ℤ b) + v)) ↔
    (neg_part a + (neg_part b + (x + u)) ≤ pos_part a + (pos_part b + (y + v)))
lq-add2n a b x y u v = ((λ h. omega (arith, add-pn a b)), λ h. omega (arith, add-pn a b))

pub lq-add3p : (a b : ℤ) (w x y z u v : ℕ)
    → (w + (x + (pos_part (a +ℤ b) + u)) ≤ y + (z + (neg_part (a +ℤ b) + v)))
    ↔ (pos_part a + (pos_part b + (w + (x + u))) ≤ neg_part a + (neg_part b + (y + (z + v))))
lq-add3p a b w x y z u v = ((λ h. omega (arith, add-pn a b)), λ h. omega (arith, add-pn a b))

pub lq-add3n : (a b : ℤ) (w x y z u v : ℕ)
    → (w + (x + (neg_part (a +ℤ b) + u)) ≤ y + (z + (pos_part (a +ℤ b) + v)))
    ↔ (neg_part a + (neg_part b + (w + (x + u))) ≤ pos_part a + (pos_part b + (y + (z + v))))
lq-add3n a b w x y z u v = ((λ h. omega (arith, add-pn a b)), λ h. omega (arith, add-pn a b))

pub eq-add1p : (a b : ℤ) (u v : ℕ) → (pos_part (a +ℤ b) + u ≡ neg_part (a +ℤ b) + v) ↔
    (pos_part a + (pos_part b + u) ≡ neg_part a + (neg_part b + v))
eq-add1p a b u v = ((λ h. omega (arith, add-pn a b)), λ h. omega (arith, add-pn a b))

pub eq-add1n : (a b : ℤ) (u v : ℕ) → (neg_part (a +ℤ b) + u ≡ pos_part (a +ℤ b) + v) ↔
    (neg_part a + (neg_part b + u) ≡ pos_part a + (pos_part b + v))
eq-add1n a b u v = ((λ h. omega (arith, add-pn a b)), λ h. omega (arith, add-pn a b))

pub eq-add2p : (a b : ℤ) (x y u v : ℕ)
    → (x + (pos_part (a +ℤ b) + u) ≡ y + (neg_part (a +ℤ b) + v)) ↔
    (pos_part a + (pos_part b + (x + u)) ≡ neg_part a + (neg_part b + (y + v)))
eq-add2p a b x y u v = ((λ h. omega (arith, add-pn a b)), λ h. omega (arith, add-pn a b))

pub eq-add2n : (a b : ℤ) (x y u v : ℕ)
    → (x + (neg_part (a +ℤ b) + u) ≡ y + (pos_part (a +ℤ b) + v)) ↔
    (neg_part a + (neg_part b + (x + u)) ≡ pos_part a + (pos_part b + (y + v)))
eq-add2n a b x y u v = ((λ h. omega (arith, add-pn a b)), λ h. omega (arith, add-pn a b))

pub eq-add3p : (a b : ℤ) (w x y z u v : ℕ)
    → (w + (x + (pos_part (a +ℤ b) + u)) ≡ y + (z + (neg_part (a +ℤ b) + v)))
    ↔ (pos_part a + (pos_part b + (w + (x + u))) ≡ neg_part a + (neg_part b + (y + (z + v))))
eq-add3p a b w x y z u v = ((λ h. omega (arith, add-pn a b)), λ h. omega (arith, add-pn a b))

pub eq-add3n : (a b : ℤ) (w x y z u v : ℕ)
    → (w + (x + (neg_part (a +ℤ b) + u)) ≡ y + (z + (pos_part (a +ℤ b) + v)))
    ↔ (neg_part a + (neg_part b + (w + (x + u))) ≡ pos_part a + (pos_part b + (y + (z + v))))
eq-add3n a b w x y z u v = ((λ h. omega (arith, add-pn a b)), λ h. omega (arith, add-pn a b))

-- a literal times x
pub pos_part-lit : (k : ℕ) (x : ℤ) → pos_part (pos k *ℤ x) ≡ k * pos_part x
pos_part-lit k (pos n) = refl
pos_part-lit k (negsuc n) = neg-pos_part (pos (k * suc n)) ∙ sym (mul-zero k)

pub neg_part-lit : (k : ℕ) (x : ℤ) → neg_part (pos k *ℤ x) ≡ k * neg_part x
neg_part-lit k (pos n) = sym (mul-zero k)
neg_part-lit k (negsuc n) = neg-neg_part (pos (k * suc n))

pub pos_part-lit-r : (k : ℕ) (x : ℤ) → pos_part (x *ℤ pos k) ≡ k * pos_part x
pos_part-lit-r k x = ap pos_part (*ℤ_comm x (pos k)) ∙ pos_part-lit k x

pub neg_part-lit-r : (k : ℕ) (x : ℤ) → neg_part (x *ℤ pos k) ≡ k * neg_part x
neg_part-lit-r k x = ap neg_part (*ℤ_comm x (pos k)) ∙ neg_part-lit k x

pub lit-add : (k : ℕ) (x y : ℤ) → pos k *ℤ (x +ℤ y) ≡ pos k *ℤ x +ℤ pos k *ℤ y
lit-add k x y = *ℤ-distrib-l (pos k) x y

pub lit-add-r : (k : ℕ) (x y : ℤ) → (x +ℤ y) *ℤ pos k ≡ x *ℤ pos k +ℤ y *ℤ pos k
lit-add-r k x y = *ℤ-distrib-r x y (pos k)

pub lit-neg : (k : ℕ) (x : ℤ) → pos k *ℤ neg_ℤ x ≡ neg_ℤ (pos k *ℤ x)
lit-neg k x = *ℤ-neg (pos k) x

pub lit-neg-r : (k : ℕ) (x : ℤ) → neg_ℤ x *ℤ pos k ≡ neg_ℤ (x *ℤ pos k)
lit-neg-r k x = neg-*ℤ x (pos k)

pub negsuc-l : (k : ℕ) (x : ℤ) → negsuc k *ℤ x ≡ neg_ℤ (pos (suc k) *ℤ x)
negsuc-l k x = neg-*ℤ (pos (suc k)) x

pub negsuc-r : (k : ℕ) (x : ℤ) → x *ℤ negsuc k ≡ neg_ℤ (pos (suc k) *ℤ x)
negsuc-r k x = *ℤ_comm x (negsuc k) ∙ negsuc-l k x

-- a range
mag-pn : (z : ℤ) (H : ℕ) → mag z < H → (pos_part z + 1 ≤ neg_part z + H) × (neg_part z ≤ pos_part z + H)
mag-pn (pos n) H h = (omega arith, omega arith)
mag-pn (negsuc n) H h = (omega arith, omega arith)

pn-mag : (z : ℤ) (H : ℕ) → pos_part z + 1 ≤ neg_part z + H → neg_part z ≤ pos_part z + H → mag z < H
pn-mag (pos n) H h k = omega arith
pn-mag (negsuc n) H h k = omega arith

pub sfits-lq : (w : Width) (z : ℤ)
    → SFits w z ↔ ((pos_part z + 1 ≤ neg_part z + 2 ^ hbits w)
    × (pos_part (neg_ℤ z) + 0 ≤ neg_part (neg_ℤ z) + 2 ^ hbits w))
sfits-lq w z = (
  (λ h. (
    omega (arith, mag-pn z (2 ^ hbits w) h.sfits),
    omega (arith, mag-pn z (2 ^ hbits w) h.sfits, neg-pos_part z, neg-neg_part z),
  )),
  λ h. record { sfits = pn-mag z (2 ^ hbits w) h.0 (omega (arith, neg-pos_part z, neg-neg_part z)) },
)

pub abs-pn : (z : ℤ) → nat_abs z ≡ pos_part z + neg_part z
abs-pn (pos n) = omega arith
abs-pn (negsuc n) = omega arith

pn-abs : (z : ℤ) (B : ℕ) → pos_part z ≤ neg_part z + B → neg_part z ≤ pos_part z + B → nat_abs z ≤ B
pn-abs (pos n) H h k = omega arith
pn-abs (negsuc n) H h k = omega arith

pub abs-lq : (z : ℤ) (B : ℕ) → (nat_abs z ≤ B) ↔ ((pos_part z + 0 ≤ neg_part z + B)
    × (pos_part (neg_ℤ z) + 0 ≤ neg_part (neg_ℤ z) + B))
abs-lq z B = (
  (λ h. (omega (arith, abs-pn z), omega (arith, abs-pn z, neg-pos_part z, neg-neg_part z))),
  λ h. pn-abs z B (omega arith) (omega (arith, neg-pos_part z, neg-neg_part z)),
)

pub ruleset zlin = (
  le-lq,
  lt-lq,
  eq-lq,
  sfits-lq,
  abs-lq,
  lq-add1p,
  lq-add1n,
  lq-add2p,
  lq-add2n,
  lq-add3p,
  lq-add3n,
  eq-add1p,
  eq-add1n,
  eq-add2p,
  eq-add2n,
  eq-add3p,
  eq-add3n,
  ← +ℤ_assoc,
  neg_ℤ-+ℤ,
  neg_ℤ-neg_ℤ,
  neg-pos_part,
  neg-neg_part,
  pos_part-lit,
  neg_part-lit,
  pos_part-lit-r,
  neg_part-lit-r,
  lit-add,
  lit-add-r,
  lit-neg,
  lit-neg-r,
  negsuc-l,
  negsuc-r,
)
