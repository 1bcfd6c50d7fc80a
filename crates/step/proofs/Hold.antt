-- "At each step, every point of the box with fractions for coordinates has its exact Newton image inside the computed
-- image."
use mathlib.Core.Path.{◌≡◌, refl, ap, ◌∙◌}
use mathlib.Core.List.{List, [], ◌∷◌}
use Prim.Native.Nat.{ℕ, ◌*◌, ◌-◌, ◌≤◌, ◌<◌}
use lib.IntN.{ℤ, pos, neg_ℤ, ◌+ℤ◌, ◌-ℤ◌, ◌*ℤ◌}
use lib.Signed.{◌≤ℤ◌, ◌<ℤ◌}
use Rattle.sizes.specs.Sizes.{n_max, degree_max}
use Rattle.integers.specs.Sums.{sum_to}
use Rattle.integers.proofs.Parts.{zorder}
use Rattle.integers.proofs.Ring.{lit, neg, ◌⊕◌, ◌⊖◌, ◌⊗◌, ring}
use Rattle.integers.proofs.Order.{mul-mono-r, nonneg, pos-mul}
use Rattle.integers.proofs.Rounding.{mid-lo, mid-hi}
use Rattle.intervals.specs.Interval.{mark, point_i, mid_i}
use Rattle.intervals.specs.Places.{side_at}
use Rattle.intervals.specs.Fraction.{In}
use Rattle.intervals.proofs.Hold.{hold-const, hold-add, hold-neg, hold-order, hold-cancel}
use Rattle.intervals.proofs.Places.{side-made}
use Rattle.matrices.specs.Products.{d_of, b_of, e_of}
use Rattle.matrices.proofs.Hold.{hold-d, hold-b, hold-e}
use Rattle.slopes.specs.Fractions.{InBox, units_of, power, DegreesIn, equation_num}
use Rattle.slopes.proofs.Factors.{power_pos, units-pos}
use Rattle.slopes.proofs.Values.{hold-equation}
use Rattle.slopes.proofs.Slopes.{slope_num, slopes-hold}
use Rattle.intervals.specs.declared.Interval.{Interval}
use Rattle.jobs.specs.declared.Equation.{Equation}
use Rattle.step.specs.Step.{middle_of, offset_of, value_of, slope_of, image_of, image_box}
use Rattle.step.specs.Newton.{newton_scale, newton_den, newton_num}
use Rattle.step.proofs.Newton.{scale-pos, den_pos, den-values, quotient_num, newton-diff, zero-newton}

-- the middle of a box, as a point over d
pub middle_num : (ℕ → Interval) → ℤ → ℕ → ℤ
middle_num X d j = middle_of X j *ℤ d

pub middle-in : (n : ℕ) (X : ℕ → Interval) {d : ℤ} → pos 0 <ℤ d → ((k : ℕ) → k < n → (X k).lo ≤ℤ (X k).hi)
    → InBox n (middle_num X d) d X
unfolding middle_num mid_i
middle-in n X p order = record {
  den = p;
  each = λ k l. record {
    den = p;
    low = mul-mono-r (mid-lo (X k).lo (X k).hi (order k l)) (nonneg p);
    high = mul-mono-r (mid-hi (X k).lo (X k).hi (order k l)) (nonneg p);
  };
}

middle-point : (n : ℕ) (X : ℕ → Interval) {d : ℤ} → pos 0 <ℤ d
    → InBox n (middle_num X d) d (λ j. point_i (middle_of X j))
unfolding middle_num
middle-point n X p = record { den = p; each = λ k l. hold-const (middle_of X k) p }

module _ (n : ℕ) (q : ℕ → Equation) (C : ℕ → ℕ → ℤ) (X : ℕ → Interval)
    (degrees : (k : ℕ) → k < n → DegreesIn n (q k)) where
  -- D = C F holds C f(m), the middle m over any denominator
  pub hold-middle : {d : ℤ} → pos 0 <ℤ d → (i : ℕ)
      → In (sum_to n (λ k. C i k *ℤ equation_num n (q k) (middle_num X d) d)) (newton_den d)
      (d_of n C (value_of n q C X) i)
  hold-middle {d} p i =
      rw (den-values d) at
      (hold-d n C (value_of n q C X) i (λ k. equation_num n (q k) (middle_num X d) d)
      (power_pos degree_max (units-pos p))
      (λ k l. hold-equation (middle-point n X p) (q k) (degrees k l)))

  -- B = I - C S holds I - C S with difference quotients
  pub hold-quotient : {P R : ℕ → ℤ} {d : ℤ} → InBox n P d X → InBox n R d X → (i j : ℕ) → j < n
      → In (quotient_num n q C P R d i j) (power (units_of d) (degree_max - 1) *ℤ pos mark)
      (b_of n C (slope_of n q C X) i j)
  unfolding quotient_num
  hold-quotient {P} {R} {d} h g i j l =
      hold-b n C (slope_of n q C X) i j (λ k. slope_num n (q k) P R d j) (power_pos (degree_max - 1) (units-pos h.den))
      (λ k m. slopes-hold n (q k) P R d (degrees k m) h g j l)

  -- the image, place by place: m, D and E hold the parts of N(p) = m - C f(m) + (I - C S) (p - m)
  pub image_holds : {P : ℕ → ℤ} {d : ℤ} → InBox n P d X → InBox n (newton_num n q C P d) (newton_den d)
      (image_of n q C X)
  image_holds {P} {d} h = record { den = den_pos h.den; each = place }
    where
      m : ℕ → ℤ
      m = middle_num X d

      W : ℤ
      W = power (units_of d) (degree_max - 1)

      inside : InBox n m d X
      inside = middle-in n X h.den (λ k l. hold-order (h.each k l))

      place : (i : ℕ) → i < n → In (newton_num n q C P d i) (newton_den d) (image_of n q C X i)
      place i l = unfold image_of in (rw whole (hold-add
          (hold-add (hold-const (middle_of X i) (den_pos h.den)) (hold-neg (hold-middle h.den i))) third))
        where
          CF : ℤ
          CF = sum_to n (λ k. C i k *ℤ equation_num n (q k) m d)

          BZ : ℤ
          BZ = sum_to n (λ j. quotient_num n q C P m d i j *ℤ (P j -ℤ m j))

          turn : ((W *ℤ pos mark) *ℤ d) *ℤ pos mark ≡ newton_den d
          turn = unfold newton_scale in
              (ring (W ∷ d ∷ []) (λ w d. ((w ⊗ lit (pos mark)) ⊗ d) ⊗ lit (pos mark))
              (λ w d. d ⊗ (lit (pos (mark * mark)) ⊗ w)) refl)

          third : In BZ (newton_den d) (e_of n (b_of n C (slope_of n q C X)) (offset_of X) i)
          third = unfold middle_num in
              (rw turn at
              (hold-e n (b_of n C (slope_of n q C X)) (offset_of X) i (λ j. quotient_num n q C P m d i j)
              (λ j. P j -ℤ m j)
              (pos-mul (power_pos (degree_max - 1) (units-pos h.den)) (omega zorder)) h.den
              (λ j u. hold-quotient h inside i j u)
              (λ j u. hold-add (h.each j u) (hold-neg (hold-const (middle_of X j) h.den)))))

          start : newton_num n q C m d i ≡ middle_of X i *ℤ newton_den d +ℤ neg_ℤ CF
          start = unfold newton_num middle_num in
              (ring (middle_of X i ∷ d ∷ newton_scale d ∷ CF ∷ []) (λ m d w f. (m ⊗ d) ⊗ w ⊖ f)
              (λ m d w f. m ⊗ (d ⊗ w) ⊕ neg f) refl)

          whole : newton_num n q C P d i ≡ (middle_of X i *ℤ newton_den d +ℤ neg_ℤ CF) +ℤ BZ
          whole =
              ring (newton_num n q C P d i ∷ newton_num n q C m d i ∷ []) (λ a b. a) (λ a b. b ⊕ (a ⊖ b)) refl
              ∙ ap (λ (z : ℤ). newton_num n q C m d i +ℤ z) (newton-diff n q C P m d i l)
              ∙ ap (λ (z : ℤ). z +ℤ BZ) start

  -- so no zero of the box is lost, whatever inverse was proposed
  pub image-keeps : {P : ℕ → ℤ} {d : ℤ} → InBox n P d X → ((k : ℕ) → k < n → equation_num n (q k) P d ≡ pos 0)
      → InBox n P d (image_of n q C X)
  image-keeps {P} {d} h zeros = record {
    den = h.den;
    each = λ i l.
        hold-cancel h.den (scale-pos h.den) (rw (zero-newton n q C P d zeros i) at ((image_holds h).each i l));
  }

-- the image as a box
pub image-at : (n : ℕ) → n ≤ n_max → (q : ℕ → Equation) (C : ℕ → ℕ → ℤ) (x : List Interval) (i : ℕ) → i < n
    → side_at (image_box n q C x) i ≡ image_of n q C (side_at x) i
unfolding image_box
image-at n room q C x i l = side-made n room (image_of n q C (side_at x)) refl i l
