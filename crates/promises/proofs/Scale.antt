-- "two points may be put over the same one": a point with numerators and denominator times s is the same point. It lies
-- in the same boxes, it is a zero where the point is, and its Newton image is that of the point, times s to the power
-- of 3.
use mathlib.Core.Path.{◌≡◌, refl, sym, ap, ◌∙◌}
use mathlib.Core.List.{[], ◌∷◌}
use Prim.Native.Nat.{ℕ, zero, suc, ◌*◌, ◌-◌, ◌≤◌, ◌<◌}
use native.Mathlib.Omega.{arith}
use lib.IntN.{ℤ, pos, ◌*ℤ◌, zero-*ℤ}
use lib.Signed.{◌<ℤ◌}
use Rattle.sizes.specs.Sizes.{degree_max}
use Rattle.lists.specs.Loops.{carry}
use Rattle.integers.specs.Sums.{sum_to}
use Rattle.integers.proofs.Parts.{zorder}
use Rattle.integers.proofs.Commutative.{*ℤ-assoc}
use Rattle.integers.proofs.Ring.{lit, ◌⊖◌, ◌⊗◌, ring}
use Rattle.integers.proofs.Order.{pos-mul}
use Rattle.integers.proofs.Sums.{sum-cong, sum-mul-r}
use Rattle.intervals.specs.Interval.{mark}
use Rattle.intervals.proofs.Hold.{hold-raise}
use Rattle.slopes.specs.Terms.{coef_of, exps_of}
use Rattle.term_checks.specs.Terms.{degree}
use Rattle.slopes.specs.Fractions.{InBox, units_of, power, term_num, DegreesIn, equation_num}
use Rattle.slopes.proofs.Factors.{power_pos, power-add, times-one}
use Rattle.step.specs.Newton.{newton_scale, newton_den, newton_num}
use Rattle.intervals.specs.declared.Interval.{Interval}
use Rattle.jobs.specs.declared.Equation.{Equation}

abbrev pub times : (ℕ → ℤ) → ℤ → ℕ → ℤ
times P s k = P k *ℤ s

pub power-mul : (x y : ℤ) (e : ℕ) → power (x *ℤ y) e ≡ power x e *ℤ power y e
unfolding power
power-mul x y zero = refl
power-mul x y (suc e) =
    rw (power-mul x y e)
    (ring (power x e ∷ power y e ∷ x ∷ y ∷ []) (λ p r x y. (p ⊗ r) ⊗ (x ⊗ y)) (λ p r x y. (p ⊗ x) ⊗ (r ⊗ y)) refl)

units-scale : (d s : ℤ) (e : ℕ) → power (units_of (d *ℤ s)) e ≡ power (units_of d) e *ℤ power s e
units-scale d s e =
    ap (λ (x : ℤ). power x e)
    (ring (d ∷ s ∷ []) (λ d s. (d ⊗ s) ⊗ lit (pos mark)) (λ d s. (d ⊗ lit (pos mark)) ⊗ s) refl)
    ∙ power-mul (units_of d) s e

pub box-scale : {n : ℕ} {P : ℕ → ℤ} {d s : ℤ} {X : ℕ → Interval}
    → InBox n P d X → pos 0 <ℤ s → InBox n (times P s) (d *ℤ s) X
box-scale h p = record { den = pos-mul h.den p; each = λ k l. hold-raise (h.each k l) p }

term-scale : (n : ℕ) (c : ℤ) (e : ℕ → ℕ) (P : ℕ → ℤ) (s : ℤ)
    → term_num n c e (times P s) ≡ term_num n c e P *ℤ power s (degree n e)
unfolding term_num degree carry
term-scale zero c e P s = unfold power in (sym (times-one c))
term-scale (suc n) c e P s =
    rw (term-scale n c e P s, power-mul (P n) s (e n), power-add s (degree n e) (e n) refl)
    (ring (term_num n c e P ∷ power s (degree n e) ∷ power (P n) (e n) ∷ power s (e n) ∷ [])
    (λ t a p b. (t ⊗ a) ⊗ (p ⊗ b)) (λ t a p b. (t ⊗ p) ⊗ (a ⊗ b)) refl)

module _ (n : ℕ) where
  pub value-scale : (q : Equation) (P : ℕ → ℤ) (d s : ℤ)
      → DegreesIn n q → equation_num n q (times P s) (d *ℤ s) ≡ equation_num n q P d *ℤ power s degree_max
  unfolding equation_num
  value-scale q P d s g =
      sum-cong q.count (λ t. term_num n (coef_of q t) (exps_of q t) (times P s)
      *ℤ power (units_of (d *ℤ s)) (degree_max - degree n (exps_of q t)))
      (λ t. value t *ℤ power s degree_max) (λ t l. one (coef_of q t) (exps_of q t) (g.each t l))
      ∙ sum-mul-r q.count (power s degree_max) value
    where
      value : ℕ → ℤ
      value t = term_num n (coef_of q t) (exps_of q t) P *ℤ power (units_of d) (degree_max - degree n (exps_of q t))

      one : (c : ℤ) (e : ℕ → ℕ) → degree n e ≤ degree_max
          → term_num n c e (times P s) *ℤ power (units_of (d *ℤ s)) (degree_max - degree n e)
          ≡ (term_num n c e P *ℤ power (units_of d) (degree_max - degree n e)) *ℤ power s degree_max
      one c e l =
          rw (
            term-scale n c e P s,
            units-scale d s (degree_max - degree n e),
            power-add s (degree n e) (degree_max - degree n e) {m = degree_max} (omega arith),
          )
          (ring (term_num n c e P ∷ power s (degree n e) ∷ power (units_of d) (degree_max - degree n e)
          ∷ power s (degree_max - degree n e) ∷ [])
          (λ t a p b. (t ⊗ a) ⊗ (p ⊗ b)) (λ t a p b. (t ⊗ p) ⊗ (a ⊗ b)) refl)

  pub zero-scale : (q : Equation) (P : ℕ → ℤ) (d s : ℤ)
      → DegreesIn n q → equation_num n q P d ≡ pos 0 → equation_num n q (times P s) (d *ℤ s) ≡ pos 0
  zero-scale q P d s g z =
      value-scale q P d s g ∙ ap (λ (x : ℤ). x *ℤ power s degree_max) z ∙ zero-*ℤ (power s degree_max)

  pub newton-scale : (q : ℕ → Equation) (C : ℕ → ℕ → ℤ) → ((k : ℕ) → k < n → DegreesIn n (q k))
      → (P : ℕ → ℤ) (d s : ℤ) (i : ℕ)
      → newton_num n q C (times P s) (d *ℤ s) i ≡ newton_num n q C P d i *ℤ power s degree_max
  unfolding newton_num newton_scale
  newton-scale q C degrees P d s i =
      rw (values, units-scale d s (degree_max - 1), power-add s 1 (degree_max - 1) {m = degree_max} refl)
      (unfold power in
      (ring (P i ∷ s ∷ power (units_of d) (degree_max - 1) ∷ power s (degree_max - 1) ∷ sum_to n value ∷ [])
      (λ p s w t f. (p ⊗ s) ⊗ (lit (pos (mark * mark)) ⊗ (w ⊗ t)) ⊖ f ⊗ ((lit (pos 1) ⊗ s) ⊗ t))
      (λ p s w t f. (p ⊗ (lit (pos (mark * mark)) ⊗ w) ⊖ f) ⊗ ((lit (pos 1) ⊗ s) ⊗ t)) refl))
    where
      value : ℕ → ℤ
      value k = C i k *ℤ equation_num n (q k) P d

      values : sum_to n (λ k. C i k *ℤ equation_num n (q k) (times P s) (d *ℤ s)) ≡ sum_to n value *ℤ power s degree_max
      values =
          sum-cong n (λ k. C i k *ℤ equation_num n (q k) (times P s) (d *ℤ s)) (λ k. value k *ℤ power s degree_max)
          (λ k l. ap (λ (x : ℤ). C i k *ℤ x) (value-scale (q k) P d s (degrees k l))
          ∙ sym (*ℤ-assoc (C i k) (equation_num n (q k) P d) (power s degree_max)))
          ∙ sum-mul-r n (power s degree_max) value

-- what the denominator of an image has beside that of the point to the power of 3
unfoldable pub fixed_den : ℤ
fixed_den = pos (mark * mark) *ℤ power (pos mark) (degree_max - 1)

pub den-fixed : (d : ℤ) → newton_den d ≡ fixed_den *ℤ power d degree_max
unfolding newton_scale fixed_den
den-fixed d =
    rw (power-mul d (pos mark) (degree_max - 1), power-add d 1 (degree_max - 1) {m = degree_max} refl)
    (unfold power in
    (ring (d ∷ power d (degree_max - 1) ∷ power (pos mark) (degree_max - 1) ∷ [])
    (λ d e m. d ⊗ (lit (pos (mark * mark)) ⊗ (e ⊗ m)))
    (λ d e m. (lit (pos (mark * mark)) ⊗ m) ⊗ ((lit (pos 1) ⊗ d) ⊗ e)) refl))

pub fixed-pos : pos 0 <ℤ fixed_den
unfolding fixed_den
fixed-pos = pos-mul {a = pos (mark * mark)} {b = power (pos mark) (degree_max - 1)} (omega zorder)
    (power_pos (degree_max - 1) (omega zorder))
