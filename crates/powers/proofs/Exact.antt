-- Exact powers of whole numbers: how exponents add up, and the quotient of the difference of two powers.
use mathlib.Core.Path.{◌≡◌, refl, sym, ap, ◌∙◌}
use mathlib.Core.List.{[], ◌∷◌}
use Prim.Native.Nat.{ℕ, zero, suc, ◌+◌, ◌-◌, ◌<◌}
use native.Mathlib.Omega.{arith}
use native.Mathlib.Nat.{add-zero, add-suc}
use lib.IntN.{ℤ, pos, ◌+ℤ◌, ◌-ℤ◌, ◌*ℤ◌}
use lib.Signed.{◌<ℤ◌}
use Rattle.integers.specs.Sums.{sum_to}
use Rattle.integers.proofs.Commutative.{*ℤ-assoc}
use Rattle.integers.proofs.Parts.{zorder}
use Rattle.integers.proofs.Ring.{lit, ◌⊕◌, ◌⊖◌, ◌⊗◌, ring}
use Rattle.integers.proofs.Order.{pos-mul}
use Rattle.integers.proofs.Sums.{sum-cong, sum-mul}
use Rattle.powers.specs.Exact.{power}

pub times-one : (x : ℤ) → x *ℤ pos 1 ≡ x
times-one x = ring (x ∷ []) (λ x. x ⊗ lit (pos 1)) (λ x. x) refl

pub power-one : (x : ℤ) → power x 1 ≡ x
unfolding power
power-one x = ring (x ∷ []) (λ x. lit (pos 1) ⊗ x) (λ x. x) refl

pub power_pos : {x : ℤ} (e : ℕ) → pos 0 <ℤ x → pos 0 <ℤ power x e
unfolding power
power_pos zero h = omega zorder
power_pos (suc e) h = pos-mul (power_pos e h) h

plus : (x : ℤ) (k l : ℕ) → power x (k + l) ≡ power x k *ℤ power x l
unfolding power
plus x k zero = rw (add-zero k, times-one (power x k))
plus x k (suc l) = rw (add-suc, plus x k l) (*ℤ-assoc (power x k) (power x l) x)

pub power-add : (x : ℤ) (k l : ℕ) {m : ℕ} → m ≡ k + l → power x m ≡ power x k *ℤ power x l
power-add x k l e = ap (power x) e ∙ plus x k l

-- ---- x^(a-1) + x^(a-2) y + .. + y^(a-1)
unfoldable pub quotient : ℕ → ℤ → ℤ → ℤ
quotient a x y = sum_to a (λ i. power x i *ℤ power y (a - 1 - i))

quotient-more : (a : ℕ) (x y : ℤ) → quotient (suc a) x y ≡ y *ℤ quotient a x y +ℤ power x a
unfolding quotient sum_to
quotient-more a x y =
    ap (λ (z : ℤ). z +ℤ power x a *ℤ power y (suc a - 1 - a))
    (sum-cong a (mixed (suc a)) (λ i. y *ℤ mixed a i) early ∙ sum-mul a y (mixed a))
    ∙ ap (λ (z : ℤ). y *ℤ sum_to a (mixed a) +ℤ z) last
  where
    mixed : ℕ → ℕ → ℤ
    mixed b i = power x i *ℤ power y (b - 1 - i)

    early : (i : ℕ) → i < a → mixed (suc a) i ≡ y *ℤ mixed a i
    early i l =
        let less : suc a - 1 - i ≡ suc (a - 1 - i) = omega arith in
        ap (λ (k : ℕ). power x i *ℤ power y k) less
        ∙ unfold power in
        (ring (power x i ∷ power y (a - 1 - i) ∷ y ∷ []) (λ p r y. p ⊗ (r ⊗ y)) (λ p r y. y ⊗ (p ⊗ r)) refl)

    last : power x a *ℤ power y (suc a - 1 - a) ≡ power x a
    last =
        let none : suc a - 1 - a ≡ 0 = omega arith in
        ap (λ (k : ℕ). power x a *ℤ power y k) none ∙ unfold power in (times-one (power x a))

pub quotient-law : (a : ℕ) (x y : ℤ) → power x a -ℤ power y a ≡ (x -ℤ y) *ℤ quotient a x y
unfolding power quotient sum_to
quotient-law zero x y = ring (x ∷ y ∷ []) (λ x y. lit (pos 1) ⊖ lit (pos 1)) (λ x y. (x ⊖ y) ⊗ lit (pos 0)) refl
quotient-law (suc a) x y =
    ring (power x a ∷ power y a ∷ x ∷ y ∷ []) (λ p r x y. p ⊗ x ⊖ r ⊗ y) (λ p r x y. (p ⊖ r) ⊗ y ⊕ p ⊗ (x ⊖ y)) refl
    ∙ ap (λ (z : ℤ). z *ℤ y +ℤ power x a *ℤ (x -ℤ y)) (quotient-law a x y)
    ∙ ring (x ∷ y ∷ quotient a x y ∷ power x a ∷ []) (λ x y g p. ((x ⊖ y) ⊗ g) ⊗ y ⊕ p ⊗ (x ⊖ y))
    (λ x y g p. (x ⊖ y) ⊗ (y ⊗ g ⊕ p)) refl
    ∙ ap (λ (z : ℤ). (x -ℤ y) *ℤ z) (sym (quotient-more a x y))
