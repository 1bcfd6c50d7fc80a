-- Points with denominators of their own, in a box on which a step says "unique": two zeros are the same point, and
-- different points have closer images.
use mathlib.Core.Path.{◌≡◌, refl, ap, ◌∙◌}
use mathlib.Core.List.{List, [], ◌∷◌}
use Prim.Native.Nat.{ℕ, ◌<◌}
use lib.IntN.{ℤ, ◌-ℤ◌, ◌*ℤ◌, *ℤ_comm}
use lib.Signed.{◌<ℤ◌}
use Rattle.sizes.specs.Sizes.{degree_max}
use Rattle.integers.specs.Absolute.{abs_ℤ}
use Rattle.integers.proofs.Parts.{zorder}
use Rattle.integers.proofs.Ring.{◌⊖◌, ◌⊗◌, ring}
use Rattle.integers.proofs.Order.{mul-lt-r, nonneg, pos-mul}
use Rattle.integers.proofs.Absolute.{abs-pos, abs-mul}
use Rattle.intervals.specs.Places.{side_at}
use Rattle.slopes.specs.Fractions.{InBox, power, DegreesIn}
use Rattle.step.specs.Step.{image_of}
use Rattle.step.specs.Newton.{newton_scale, newton_den, newton_num}
use Rattle.step.specs.Meanings.{Strictly}
use Rattle.intervals.specs.declared.Interval.{Interval}
use Rattle.jobs.specs.declared.Equation.{Equation}
use Rattle.promises.specs.Claims.{Ordered, Point, Lies, Same, Zero, newton_of}
use Rattle.promises.specs.Claims.{apart, width_of, Largest, CloserAt, Closer}
use Rattle.promises.proofs.Contraction.{gap, farthest, contraction, one-zero}
use Rattle.promises.proofs.Scale.{times, power-mul, box-scale, zero-scale}
use Rattle.promises.proofs.Scale.{newton-scale, fixed_den, fixed-pos, den-fixed}

module _ (n : ℕ) (q : ℕ → Equation) (C : ℕ → ℕ → ℤ) (x : List Interval) (degrees : (k : ℕ) → k < n → DegreesIn n (q k))
    (order : Ordered n (side_at x)) (strictly : Strictly n (side_at x) (image_of n q C (side_at x)))
    (p r : Point) (h : Lies n p x) (g : Lies n r x) where
  abbrev d : ℤ
  d = p.den

  abbrev e : ℤ
  e = r.den

  -- both over d e
  left : InBox n (times p.num e) (d *ℤ e) (side_at x)
  left = box-scale h g.den

  right : InBox n (times r.num d) (d *ℤ e) (side_at x)
  right = rw (*ℤ_comm d e) (box-scale g h.den)

  pub same-zero : Zero n q p → Zero n q r → Same n p r
  same-zero y z = record {
    each =
        one-zero n q C (side_at x) degrees order strictly left right
        (λ k l. zero-scale n (q k) p.num d e (degrees k l) (y.each k l))
        (λ k l. rw (*ℤ_comm d e) (zero-scale n (q k) r.num e d (degrees k l) (z.each k l)));
  }

  -- the images of the two, so put
  abbrev G : ℕ → ℤ
  G = gap (newton_num n q C (times p.num e) (d *ℤ e)) (newton_num n q C (times r.num d) (d *ℤ e))

  images-gap : (i : ℕ) → apart (newton_of n q C p) (newton_of n q C r) i ≡ G i *ℤ fixed_den
  unfolding apart
  images-gap i =
      ap abs_ℤ (rw (den-fixed d, den-fixed e) factored)
      ∙ abs-mul (N p *ℤ power e degree_max -ℤ N r *ℤ power d degree_max) fixed_den
      ∙ rw (
        abs-pos fixed_den (nonneg fixed-pos),
        newton-scale n q C degrees p.num d e i,
        *ℤ_comm d e,
        newton-scale n q C degrees r.num e d i,
      )
    where
      N : Point → ℤ
      N w = newton_num n q C w.num w.den i

      factored : N p *ℤ (fixed_den *ℤ power e degree_max) -ℤ N r *ℤ (fixed_den *ℤ power d degree_max)
          ≡ (N p *ℤ power e degree_max -ℤ N r *ℤ power d degree_max) *ℤ fixed_den
      factored =
          ring (N p ∷ N r ∷ power e degree_max ∷ power d degree_max ∷ fixed_den ∷ [])
          (λ a b u v f. a ⊗ (f ⊗ u) ⊖ b ⊗ (f ⊗ v)) (λ a b u v f. (a ⊗ u ⊖ b ⊗ v) ⊗ f) refl

  pub closer : (Same n p r → ⊥) → Closer n q C x p r
  closer differ = record { farthest = far; smaller = smaller }
    where
      apart_from : ((k : ℕ) → k < n → times p.num e k ≡ times r.num d k) → ⊥
      apart_from all = differ (record { each = all })

      far : Largest n (apart p r) (width_of (side_at x))
      far = unfold apart in
          (farthest n q C (side_at x) degrees order strictly (times p.num e) (times r.num d) apart_from)

      w : ℕ → ℤ
      w = width_of (side_at x)

      over : (i : ℕ) → i < n → (G i *ℤ w far.place) <ℤ (apart p r far.place *ℤ (w i *ℤ newton_scale (d *ℤ e)))
      over i l = unfold apart in (contraction n q C (side_at x) degrees order strictly left right apart_from far i l)

      smaller : (i : ℕ) → i < n → CloserAt n q C x p r far.place i
      smaller i l = omega (zorder, images, more, mul-lt-r (over i l) (pos-mul fixed-pos left.den))
        where
          A : ℤ
          A = apart p r far.place

          images : (apart (newton_of n q C p) (newton_of n q C r) i *ℤ w far.place) *ℤ (d *ℤ e)
              ≡ (G i *ℤ w far.place) *ℤ (fixed_den *ℤ (d *ℤ e))
          images =
              rw (images-gap i)
              (ring (G i ∷ fixed_den ∷ w far.place ∷ (d *ℤ e) ∷ [])
              (λ g f w z. ((g ⊗ f) ⊗ w) ⊗ z) (λ g f w z. (g ⊗ w) ⊗ (f ⊗ z)) refl)

          dens : newton_den d *ℤ newton_den e ≡ fixed_den *ℤ newton_den (d *ℤ e)
          dens =
              rw (den-fixed d, den-fixed e, den-fixed (d *ℤ e), power-mul d e degree_max)
              (ring (fixed_den ∷ power d degree_max ∷ power e degree_max ∷ []) (λ f u v. (f ⊗ u) ⊗ (f ⊗ v))
              (λ f u v. f ⊗ (f ⊗ (u ⊗ v))) refl)

          more : (A *ℤ w i) *ℤ (newton_den d *ℤ newton_den e)
              ≡ (A *ℤ (w i *ℤ newton_scale (d *ℤ e))) *ℤ (fixed_den *ℤ (d *ℤ e))
          more =
              ap (λ (z : ℤ). (A *ℤ w i) *ℤ z) dens
              ∙ ring (A ∷ w i ∷ newton_scale (d *ℤ e) ∷ fixed_den ∷ (d *ℤ e) ∷ [])
              (λ a w s f z. (a ⊗ w) ⊗ (f ⊗ (z ⊗ s))) (λ a w s f z. (a ⊗ (w ⊗ s)) ⊗ (f ⊗ z)) refl
