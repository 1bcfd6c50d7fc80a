-- Exact Newton images: the difference of two of them through difference quotients, and the image of a zero.
use mathlib.Core.Path.{◌≡◌, refl, sym, ap, ◌∙◌}
use mathlib.Core.List.{[], ◌∷◌}
use Prim.Native.Nat.{ℕ, zero, suc, ◌*◌, ◌-◌, ◌≤◌, ◌<◌}
use native.Mathlib.Omega.{arith}
use native.Mathlib.Nat.{not-suc-le-zero}
use native.Mathlib.Decide.{ℕ_discrete}
use lib.IntN.{ℤ, pos, ◌+ℤ◌, ◌-ℤ◌, ◌*ℤ◌, *ℤ_comm, *ℤ-zero, zero-*ℤ}
use lib.Signed.{◌<ℤ◌}
use borrow.Author.Tests.{eq-eqb, ne_eqb}
use Rattle.sizes.specs.Sizes.{degree_max}
use Rattle.integers.specs.Sums.{sum_to}
use Rattle.integers.proofs.Parts.{zorder}
use Rattle.integers.proofs.Ring.{lit, ◌⊕◌, ◌⊖◌, ◌⊗◌, ring}
use Rattle.integers.proofs.Order.{pos-mul}
use Rattle.integers.proofs.Sums.{sum-cong, sum-sub, sum-assoc, sum-none}
use Rattle.intervals.specs.Interval.{mark}
use Rattle.matrices.specs.Products.{unit_z}
use Rattle.slopes.specs.Fractions.{units_of, power, equation_num}
use Rattle.slopes.proofs.Factors.{power_pos, units-pos}
use Rattle.slopes.proofs.Slopes.{slope_num, slopes-law}
use Rattle.jobs.specs.declared.Equation.{Equation}
use Rattle.step.specs.Newton.{newton_scale, newton_den, newton_num}

-- ---- denominators
pub scale-pos : {d : ℤ} → pos 0 <ℤ d → pos 0 <ℤ newton_scale d
unfolding newton_scale
scale-pos {d} h = pos-mul {a = pos (mark * mark)} {b = power (units_of d) (degree_max - 1)} (omega zorder)
    (power_pos (degree_max - 1) (units-pos h))

pub den_pos : {d : ℤ} → pos 0 <ℤ d → pos 0 <ℤ newton_den d
den_pos h = pos-mul h (scale-pos h)

-- C f(p) has the denominator of f(p), times 65,536
pub den-values : (d : ℤ) → power (units_of d) degree_max *ℤ pos mark ≡ newton_den d
unfolding newton_scale power
den-values d = ring (d ∷ power (units_of d) (degree_max - 1) ∷ [])
    (λ d w. (w ⊗ (d ⊗ lit (pos mark))) ⊗ lit (pos mark)) (λ d w. d ⊗ (lit (pos (mark * mark)) ⊗ w)) refl

-- ---- the unit matrix picks a place
unit-past : (n i : ℕ) (f : ℕ → ℤ) → n ≤ i → sum_to n (λ j. unit_z i j *ℤ f j) ≡ pos 0
unfolding sum_to unit_z
unit-past zero i f h = refl
unit-past (suc n) i f h =
    let ne : i ≡ n → ⊥ = λ e. omega arith in
    rw (unit-past n i f (omega arith), ne_eqb i n ne, zero-*ℤ (f n))

unit-sum : (n i : ℕ) (f : ℕ → ℤ) → i < n → sum_to n (λ j. unit_z i j *ℤ f j) ≡ pos (mark * mark) *ℤ f i
unfolding sum_to unit_z
unit-sum zero i f h = absurd (not-suc-le-zero h)
unit-sum (suc n) i f h = by (ℕ_discrete i n) (unit-sum n i f)
  where
    by : Dec (i ≡ n) → (i < n → sum_to n (λ j. unit_z i j *ℤ f j) ≡ pos (mark * mark) *ℤ f i)
        → sum_to n (λ j. unit_z i j *ℤ f j) +ℤ unit_z i n *ℤ f n ≡ pos (mark * mark) *ℤ f i
    by (yes p) r = rw (unit-past n i f (omega arith), eq-eqb i n p, p)
        (ring ((pos (mark * mark) *ℤ f n) ∷ []) (λ x. lit (pos 0) ⊕ x) (λ x. x) refl)
    by (no p) r = rw (r (omega arith), ne_eqb i n p, zero-*ℤ (f n))
        (ring ((pos (mark * mark) *ℤ f i) ∷ []) (λ x. x ⊕ lit (pos 0)) (λ x. x) refl)

-- ---- the difference of two images
module _ (n : ℕ) (q : ℕ → Equation) (C : ℕ → ℕ → ℤ) (P R : ℕ → ℤ) (d : ℤ) where
  -- I - C S with the difference quotients between P and R in place of S
  unfoldable pub quotient_num : ℕ → ℕ → ℤ
  quotient_num i j = unit_z i j *ℤ power (units_of d) (degree_max - 1) -ℤ sum_to n
      (λ k. C i k *ℤ slope_num n (q k) P R d j)

  pub newton-diff : (i : ℕ)
      → i < n → newton_num n q C P d i -ℤ newton_num n q C R d i ≡ sum_to n (λ j. quotient_num i j *ℤ (P j -ℤ R j))
  unfolding newton_num newton_scale quotient_num
  newton-diff i l =
      ring (P i ∷ R i ∷ (pos (mark * mark) *ℤ W) ∷ sum_to n (value P) ∷ sum_to n (value R) ∷ [])
      (λ p r w f g. (p ⊗ w ⊖ f) ⊖ (r ⊗ w ⊖ g)) (λ p r w f g. (p ⊖ r) ⊗ w ⊖ (f ⊖ g)) refl
      ∙ ap (λ (z : ℤ). (P i -ℤ R i) *ℤ (pos (mark * mark) *ℤ W) -ℤ z) values
      ∙ ap (λ (z : ℤ). z -ℤ sum_to n (λ j. row j *ℤ step j)) units
      ∙ sym (sum-sub n (λ j. unit_z i j *ℤ (W *ℤ step j)) (λ j. row j *ℤ step j))
      ∙ sum-cong n (λ j. unit_z i j *ℤ (W *ℤ step j) -ℤ row j *ℤ step j) (λ j. (unit_z i j *ℤ W -ℤ row j) *ℤ step j)
      (λ j _.
      ring (unit_z i j ∷ W ∷ step j ∷ row j ∷ []) (λ u w x c. u ⊗ (w ⊗ x) ⊖ c ⊗ x) (λ u w x c. (u ⊗ w ⊖ c) ⊗ x) refl)
    where
      W : ℤ
      W = power (units_of d) (degree_max - 1)

      step : ℕ → ℤ
      step j = P j -ℤ R j

      slope : ℕ → ℕ → ℤ
      slope k j = slope_num n (q k) P R d j

      row : ℕ → ℤ
      row j = sum_to n (λ k. C i k *ℤ slope k j)

      value : (ℕ → ℤ) → ℕ → ℤ
      value A k = C i k *ℤ equation_num n (q k) A d

      values : sum_to n (value P) -ℤ sum_to n (value R) ≡ sum_to n (λ j. row j *ℤ step j)
      values =
          sym (sum-sub n (value P) (value R))
          ∙ sum-cong n (λ k. value P k -ℤ value R k) (λ k. C i k *ℤ sum_to n (λ j. slope k j *ℤ step j)) (λ k _. one k)
          ∙ sym (sum-assoc n (C i) slope step)
        where
          one : (k : ℕ) → value P k -ℤ value R k ≡ C i k *ℤ sum_to n (λ j. slope k j *ℤ step j)
          one k =
              ring (C i k ∷ equation_num n (q k) P d ∷ equation_num n (q k) R d ∷ []) (λ c f g. c ⊗ f ⊖ c ⊗ g)
              (λ c f g. c ⊗ (f ⊖ g)) refl
              ∙ ap (λ (z : ℤ). C i k *ℤ z)
              (slopes-law n (q k) P R d ∙ sum-cong n (λ j. step j *ℤ slope k j) (λ j. slope k j *ℤ step j)
              (λ j _. *ℤ_comm (step j) (slope k j)))

      units : (P i -ℤ R i) *ℤ (pos (mark * mark) *ℤ W) ≡ sum_to n (λ j. unit_z i j *ℤ (W *ℤ step j))
      units =
          ring (step i ∷ pos (mark * mark) ∷ W ∷ []) (λ x u w. x ⊗ (u ⊗ w)) (λ x u w. u ⊗ (w ⊗ x)) refl
          ∙ sym (unit-sum n i (λ j. W *ℤ step j) l)

-- a zero is its own Newton image
pub zero-newton : (n : ℕ) (q : ℕ → Equation) (C : ℕ → ℕ → ℤ) (P : ℕ → ℤ) (d : ℤ)
    → ((k : ℕ) → k < n → equation_num n (q k) P d ≡ pos 0)
    → (i : ℕ) → newton_num n q C P d i ≡ P i *ℤ newton_scale d
unfolding newton_num
zero-newton n q C P d zeros i =
    ap (λ (s : ℤ). P i *ℤ newton_scale d -ℤ s)
    (sum-cong n (λ k. C i k *ℤ equation_num n (q k) P d) (λ k. pos 0) none ∙ sum-none n)
    ∙ ring ((P i *ℤ newton_scale d) ∷ []) (λ x. x ⊖ lit (pos 0)) (λ x. x) refl
  where
    none : (k : ℕ) → k < n → C i k *ℤ equation_num n (q k) P d ≡ pos 0
    none k l = ap (λ (y : ℤ). C i k *ℤ y) (zeros k l) ∙ *ℤ-zero (C i k)
