-- "At a "unique" step, two different fraction points of the box it began on always have closer images": here for two
-- points over one denominator.
-- B holds the difference quotients and E = B Z the widest they can make of the box, K strictly inside X leaves E
-- narrower than X by 2 marks at least: so the rows of difference quotients, weighed by the widths of X, add up to less
-- than the width of X. So X has at most one zero.
use mathlib.Core.Path.{◌≡◌, refl, sym, ap, ◌∙◌}
use mathlib.Core.Bool.{Bool, true, false, cond}
use mathlib.Core.List.{[], ◌∷◌}
use mathlib.Core.Logic.{◌⊎◌, inl, inr, ⊎_elim}
use Prim.Native.Nat.{ℕ, zero, suc, ◌*◌, ◌-◌, ◌<◌}
use native.Mathlib.Nat.{not-suc-le-zero}
use lib.IntN.{ℤ, pos, ◌-ℤ◌, ◌*ℤ◌, ◌+ℤ◌, zero-*ℤ}
use lib.Signed.{◌≤ℤ◌, ◌<ℤ◌, le_z}
use Rattle.sizes.specs.Sizes.{degree_max}
use Rattle.integers.specs.Absolute.{abs_ℤ}
use Rattle.integers.specs.Sums.{sum_to}
use Rattle.integers.proofs.Parts.{zorder}
use Rattle.integers.proofs.Linear.{zlin}
use Rattle.integers.proofs.Commutative.{*ℤ-assoc}
use Rattle.integers.proofs.Ring.{lit, neg, ◌⊕◌, ◌⊖◌, ◌⊗◌, ring}
use Rattle.integers.proofs.Order.{mul-mono-r, mul-mono-l, nonneg, pos-mul, total_ℤ, cancel-r, le_z-true, le_z-false}
use Rattle.integers.proofs.Absolute.{abs-nonneg, abs-pos, abs_neg, abs-none, abs-mul, abs-sum}
use Rattle.integers.proofs.Sums.{sum-cong, sum-sub, sum-mul, sum-mul-r, sum-le}
use Rattle.intervals.specs.Interval.{mark, add_i, neg_i}
use Rattle.intervals.specs.Fraction.{In}
use Rattle.intervals.proofs.Hold.{hold-point, hold-add, hold-neg, hold-order, hold-low, hold-high}
use Rattle.matrices.specs.Products.{b_of, e_of}
use Rattle.matrices.proofs.Hold.{hold-e}
use Rattle.slopes.specs.Fractions.{InBox, units_of, power, DegreesIn, equation_num}
use Rattle.slopes.proofs.Factors.{power_pos, units-pos}
use Rattle.step.specs.Step.{middle_of, offset_of, slope_of, image_of}
use Rattle.step.specs.Newton.{newton_scale, newton_num}
use Rattle.step.specs.Meanings.{Strictly}
use Rattle.step.proofs.Newton.{scale-pos, quotient_num, newton-diff, zero-newton}
use Rattle.step.proofs.Hold.{hold-middle, hold-quotient, middle-in, image_holds}
use Rattle.intervals.specs.declared.Interval.{Interval}
use Rattle.jobs.specs.declared.Equation.{Equation}
use Rattle.promises.specs.Claims.{Ordered, width_of, inner_of, Largest}
use Rattle.promises.proofs.Largest.{largest}

-- ---- a number times the ends of an interval
-- the end of [a, b] that makes x times it greatest, and the one that makes it least
great_end : ℤ → ℤ → ℤ → ℤ
great_end x a b = cond (le_z (pos 0) x) b a

least_end : ℤ → ℤ → ℤ → ℤ
least_end x a b = cond (le_z (pos 0) x) a b

ends-in : {A : Interval} (x : ℤ) {a b : ℤ}
    → In a (pos 1) A → In b (pos 1) A → In (great_end x a b) (pos 1) A × In (least_end x a b) (pos 1) A
unfolding great_end least_end
ends-in {A} x {a} {b} h k = by (le_z (pos 0) x)
  where
    by : (t : Bool) → In (cond t b a) (pos 1) A × In (cond t a b) (pos 1) A
    by true = (k, h)
    by false = (h, k)

ends-apart : (x a b : ℤ) → x *ℤ great_end x a b -ℤ x *ℤ least_end x a b ≡ abs_ℤ x *ℤ (b -ℤ a)
unfolding great_end least_end
ends-apart x a b = by (le_z (pos 0) x) refl
  where
    by : (t : Bool) → le_z (pos 0) x ≡ t → x *ℤ cond t b a -ℤ x *ℤ cond t a b ≡ abs_ℤ x *ℤ (b -ℤ a)
    by true e = rw (abs-pos x (le_z-true (pos 0) x e))
        (ring (x ∷ a ∷ b ∷ []) (λ x a b. x ⊗ b ⊖ x ⊗ a) (λ x a b. x ⊗ (b ⊖ a)) refl)
    by false e = rw (abs_neg x (le_z-false (pos 0) x e))
        (ring (x ∷ a ∷ b ∷ []) (λ x a b. x ⊗ a ⊖ x ⊗ b) (λ x a b. neg x ⊗ (b ⊖ a)) refl)

-- how far two points over one denominator are apart
abbrev pub gap : (ℕ → ℤ) → (ℕ → ℤ) → ℕ → ℤ
gap P R j = abs_ℤ (P j -ℤ R j)

module _ (n : ℕ) (q : ℕ → Equation) (C : ℕ → ℕ → ℤ) (X : ℕ → Interval) (degrees : (k : ℕ) → k < n → DegreesIn n (q k))
    (order : Ordered n X) where
  abbrev E : ℕ → Interval
  E = e_of n (b_of n C (slope_of n q C X)) (offset_of X)

  -- a row of difference quotients, weighed by the widths, fits the width of E: for each quotient take the end of Z that
  -- makes it greatest, then the one that makes it least
  spread : {P R : ℕ → ℤ} {d : ℤ} → InBox n P d X → InBox n R d X → (i : ℕ)
      → sum_to n (λ j. abs_ℤ (quotient_num n q C P R d i j) *ℤ width_of X j) ≤ℤ
      (((E i).hi -ℤ (E i).lo) *ℤ newton_scale d)
  spread {P} {R} {d} h g i = rw (← apart, whole) (simp zlin (omega (zorder, up.high, down.low)))
    where
      B : ℕ → ℤ
      B j = quotient_num n q C P R d i j

      great : ℕ → ℤ
      great j = great_end (B j) ((X j).lo -ℤ middle_of X j) ((X j).hi -ℤ middle_of X j)

      least : ℕ → ℤ
      least j = least_end (B j) ((X j).lo -ℤ middle_of X j) ((X j).hi -ℤ middle_of X j)

      W : ℤ
      W = power (units_of d) (degree_max - 1)

      W>0 : pos 0 <ℤ (W *ℤ pos mark)
      W>0 = pos-mul (power_pos (degree_max - 1) (units-pos h.den)) (omega zorder)

      ends : (j : ℕ) → j < n → In (great j) (pos 1) (offset_of X j) × In (least j) (pos 1) (offset_of X j)
      ends j l =
          ends-in (B j) (hold-add (hold-low (X j) (order j l)) (hold-neg (hold-point (middle_of X j))))
          (hold-add (hold-high (X j) (order j l)) (hold-neg (hold-point (middle_of X j))))

      up : In (sum_to n (λ j. B j *ℤ great j)) (((W *ℤ pos mark) *ℤ pos 1) *ℤ pos mark) (E i)
      up =
          hold-e n (b_of n C (slope_of n q C X)) (offset_of X) i B great W>0 (omega zorder)
          (λ j l. hold-quotient n q C X degrees h g i j l)
          (λ j l. (ends j l).0)

      down : In (sum_to n (λ j. B j *ℤ least j)) (((W *ℤ pos mark) *ℤ pos 1) *ℤ pos mark) (E i)
      down =
          hold-e n (b_of n C (slope_of n q C X)) (offset_of X) i B least W>0 (omega zorder)
          (λ j l. hold-quotient n q C X degrees h g i j l)
          (λ j l. (ends j l).1)

      apart : sum_to n (λ j. B j *ℤ great j) -ℤ sum_to n (λ j. B j *ℤ least j)
          ≡ sum_to n (λ j. abs_ℤ (B j) *ℤ width_of X j)
      apart =
          sym (sum-sub n (λ j. B j *ℤ great j) (λ j. B j *ℤ least j))
          ∙ sum-cong n (λ j. B j *ℤ great j -ℤ B j *ℤ least j) (λ j. abs_ℤ (B j) *ℤ width_of X j) (λ j _. one j)
        where
          one : (j : ℕ) → B j *ℤ great j -ℤ B j *ℤ least j ≡ abs_ℤ (B j) *ℤ width_of X j
          one j = unfold width_of in
              (ends-apart (B j) ((X j).lo -ℤ middle_of X j) ((X j).hi -ℤ middle_of X j)
              ∙ ring (abs_ℤ (B j) ∷ (X j).lo ∷ (X j).hi ∷ middle_of X j ∷ []) (λ t a b m. t ⊗ ((b ⊖ m) ⊖ (a ⊖ m)))
              (λ t a b m. t ⊗ (b ⊖ a)) refl)

      whole : ((E i).hi -ℤ (E i).lo) *ℤ newton_scale d
          ≡ (E i).hi *ℤ (((W *ℤ pos mark) *ℤ pos 1) *ℤ pos mark) -ℤ (E i).lo *ℤ (((W *ℤ pos mark) *ℤ pos 1) *ℤ pos mark)
      whole = unfold newton_scale in
          (ring ((E i).hi ∷ (E i).lo ∷ W ∷ []) (λ b a w. (b ⊖ a) ⊗ (lit (pos (mark * mark)) ⊗ w))
          (λ b a w. b ⊗ (((w ⊗ lit (pos mark)) ⊗ lit (pos 1)) ⊗ lit (pos mark))
          ⊖ a ⊗ (((w ⊗ lit (pos mark)) ⊗ lit (pos 1)) ⊗ lit (pos mark))) refl)

  module _ (strictly : Strictly n X (image_of n q C X)) where
    -- K strictly inside X: E is narrower than X by 2 marks at least
    narrow : (i : ℕ) → i < n → ((E i).hi -ℤ (E i).lo) ≤ℤ inner_of X i
    unfolding image_of add_i neg_i width_of
    narrow i l =
        let low = (strictly i l).0 in
        let high = (strictly i l).1 in
        simp zlin (omega (
          zorder,
          hold-order (hold-middle n q C X degrees {d = pos 1} (omega zorder) i),
          simp zlin at low,
          simp zlin at high,
        ))

    -- every edge is 2 marks wide at least
    pub wide : (i : ℕ) → i < n → pos 2 ≤ℤ width_of X i
    unfolding width_of
    wide i l =
        let low = (strictly i l).0 in
        let high = (strictly i l).1 in
        let K = (image_holds n q C X degrees (middle-in n X {d = pos 1} (omega zorder) order)).each i l in
        simp zlin (omega (zorder, low, high, hold-order K))

    -- the sharper form: the row's weighed sum falls short of the width by 2 marks
    pub row-sum : {P R : ℕ → ℤ} {d : ℤ} → InBox n P d X → InBox n R d X → (i : ℕ) → i < n
        → sum_to n (λ j. abs_ℤ (quotient_num n q C P R d i j) *ℤ width_of X j) ≤ℤ (inner_of X i *ℤ newton_scale d)
    row-sum h g i l = omega (zorder, spread h g i, mul-mono-r (narrow i l) (nonneg (scale-pos h.den)))

    -- points at most s / t widths apart have images at most s / t of the widths less 2 marks apart
    pub contracts : {P R : ℕ → ℤ} {d : ℤ} (s t : ℤ) → pos 0 ≤ℤ s → pos 0 ≤ℤ t → InBox n P d X → InBox n R d X
        → ((j : ℕ) → j < n → (gap P R j *ℤ t) ≤ℤ (s *ℤ width_of X j))
        → (i : ℕ)
        → i < n → (gap (newton_num n q C P d) (newton_num n q C R d) i *ℤ t) ≤ℤ (s *ℤ (inner_of X i *ℤ newton_scale d))
    contracts {P} {R} {d} s t s0 t0 h g near i l =
        rw (newton-diff n q C P R d i l) (omega (zorder, sum, parts, each, mul-mono-l (row-sum h g i l) s0))
      where
        B : ℕ → ℤ
        B j = quotient_num n q C P R d i j

        sum : (abs_ℤ (sum_to n (λ j. B j *ℤ (P j -ℤ R j))) *ℤ t) ≤ℤ (sum_to n (λ j. abs_ℤ (B j *ℤ (P j -ℤ R j))) *ℤ t)
        sum = mul-mono-r (abs-sum n (λ j. B j *ℤ (P j -ℤ R j))) t0

        parts : sum_to n (λ j. abs_ℤ (B j *ℤ (P j -ℤ R j))) *ℤ t ≡ sum_to n (λ j. abs_ℤ (B j) *ℤ (gap P R j *ℤ t))
        parts =
            sym (sum-mul-r n t (λ j. abs_ℤ (B j *ℤ (P j -ℤ R j))))
            ∙ sum-cong n (λ j. abs_ℤ (B j *ℤ (P j -ℤ R j)) *ℤ t) (λ j. abs_ℤ (B j) *ℤ (gap P R j *ℤ t))
            (λ j _. ap (λ (z : ℤ). z *ℤ t) (abs-mul (B j) (P j -ℤ R j)) ∙ *ℤ-assoc (abs_ℤ (B j)) (gap P R j) t)

        each : sum_to n (λ j. abs_ℤ (B j) *ℤ (gap P R j *ℤ t)) ≤ℤ (s *ℤ sum_to n (λ j. abs_ℤ (B j) *ℤ width_of X j))
        each =
            rw (← (sum-mul n s (λ j. abs_ℤ (B j) *ℤ width_of X j)))
            (sum-le n (λ j. abs_ℤ (B j) *ℤ (gap P R j *ℤ t)) (λ j. s *ℤ (abs_ℤ (B j) *ℤ width_of X j)) one)
          where
            one : (j : ℕ) → j < n → (abs_ℤ (B j) *ℤ (gap P R j *ℤ t)) ≤ℤ (s *ℤ (abs_ℤ (B j) *ℤ width_of X j))
            one j u =
                rw (ring (s ∷ abs_ℤ (B j) ∷ width_of X j ∷ []) (λ s b w. s ⊗ (b ⊗ w)) (λ s b w. b ⊗ (s ⊗ w)) refl)
                (mul-mono-l (near j u) (abs-nonneg (B j)))

    positive : (i : ℕ) → i < n → pos 0 <ℤ width_of X i
    positive i l = omega (zorder, wide i l)

    -- where the points are farthest apart they are apart, unless they are the same
    apart-there : (P R : ℕ → ℤ) (f : Largest n (gap P R) (width_of X))
        → gap P R f.place ≤ℤ pos 0 → (k : ℕ) → k < n → P k ≡ R k
    apart-there P R f z k l =
        let a : (gap P R f.place *ℤ width_of X k) ≤ℤ (pos 0 *ℤ width_of X k) = mul-mono-r z (nonneg (positive k l)) in
        let b : (gap P R k *ℤ width_of X f.place) ≤ℤ (pos 0 *ℤ width_of X f.place) =
        omega (zorder, f.most k l, a, zero-*ℤ (width_of X k), zero-*ℤ (width_of X f.place)) in
        let c : P k -ℤ R k ≡ pos 0 = abs-none (P k -ℤ R k)
        (cancel-r (gap P R k) (pos 0) (width_of X f.place) (positive f.place f.live) b) in
        simp zlin (omega (zorder, simp zlin at c))

    -- a farthest place of two different points
    pub farthest : (P R : ℕ → ℤ) → (((k : ℕ) → k < n → P k ≡ R k) → ⊥) → Largest n (gap P R) (width_of X)
    farthest P R differ = by n positive differ
      where
        by : (m : ℕ) → ((k : ℕ) → k < m → pos 0 <ℤ width_of X k) → (((k : ℕ) → k < m → P k ≡ R k) → ⊥)
            → Largest m (gap P R) (width_of X)
        by zero p d = absurd (d (λ k l. absurd (not-suc-le-zero l)))
        by (suc m) p d = largest m (gap P R) (width_of X) p

    -- "gets strictly smaller"
    pub contraction : {P R : ℕ → ℤ} {d : ℤ} → InBox n P d X → InBox n R d X → (((k : ℕ) → k < n → P k ≡ R k) → ⊥)
        → (f : Largest n (gap P R) (width_of X))
        → (i : ℕ) → i < n
        → (gap (newton_num n q C P d) (newton_num n q C R d) i *ℤ width_of X f.place)
        <ℤ (gap P R f.place *ℤ (width_of X i *ℤ newton_scale d))
    contraction {P} {R} {d} h g differ f i l = omega (zorder, far, simp zlin at more, pos-mul some (scale-pos h.den))
      where
        D : ℤ
        D = gap P R f.place

        far : (gap (newton_num n q C P d) (newton_num n q C R d) i *ℤ width_of X f.place)
            ≤ℤ (D *ℤ (inner_of X i *ℤ newton_scale d))
        far = contracts D (width_of X f.place) (abs-nonneg (P f.place -ℤ R f.place))
            (nonneg (positive f.place f.live)) h g f.most i l

        more : D *ℤ (width_of X i *ℤ newton_scale d)
            ≡ D *ℤ ((width_of X i -ℤ pos 2) *ℤ newton_scale d) +ℤ pos 2 *ℤ (D *ℤ newton_scale d)
        more =
            ring (D ∷ width_of X i ∷ newton_scale d ∷ []) (λ d w m. d ⊗ (w ⊗ m))
            (λ d w m. d ⊗ ((w ⊖ lit (pos 2)) ⊗ m) ⊕ lit (pos 2) ⊗ (d ⊗ m)) refl

        some : pos 0 <ℤ D
        some = ⊎_elim (λ z. absurd (differ (apart-there P R f z))) (λ z. z) (total_ℤ D (pos 0))

    -- the box has at most one zero
    pub one-zero : {P R : ℕ → ℤ} {d : ℤ} → InBox n P d X → InBox n R d X
        → ((k : ℕ) → k < n → equation_num n (q k) P d ≡ pos 0) → ((k : ℕ) → k < n → equation_num n (q k) R d ≡ pos 0)
        → (k : ℕ) → k < n → P k ≡ R k
    one-zero {P} {R} {d} h g y z k l = ⊎_elim (λ e. e) (λ ne. absurd (no (λ all. ne (all k l)))) (same_or (P k) (R k))
      where
        same_or : (a b : ℤ) → (a ≡ b) ⊎ (a ≡ b → ⊥)
        same_or a b = ⊎_elim (λ h. ⊎_elim (λ k. inl (omega zorder)) (λ k. inr (λ e. omega zorder)) (total_ℤ b a))
            (λ h. inr (λ e. omega zorder)) (total_ℤ a b)

        no : (((k : ℕ) → k < n → P k ≡ R k) → ⊥) → ⊥
        no differ = let f = farthest P R differ in
            omega (zorder, contraction h g differ f f.place f.live, sizes f.place)
          where
            sizes : (a : ℕ) → gap (newton_num n q C P d) (newton_num n q C R d) a *ℤ width_of X a
                ≡ gap P R a *ℤ (width_of X a *ℤ newton_scale d)
            sizes a =
                ap (λ (x : ℤ). abs_ℤ x *ℤ width_of X a) images
                ∙ ap (λ (x : ℤ). x *ℤ width_of X a)
                (abs-mul (P a -ℤ R a) (newton_scale d)
                ∙ ap (λ (x : ℤ). gap P R a *ℤ x) (abs-pos (newton_scale d) (nonneg (scale-pos h.den))))
                ∙ ring (gap P R a ∷ newton_scale d ∷ width_of X a ∷ []) (λ d m w. (d ⊗ m) ⊗ w) (λ d m w. d ⊗ (w ⊗ m))
                refl
              where
                images : newton_num n q C P d a -ℤ newton_num n q C R d a ≡ (P a -ℤ R a) *ℤ newton_scale d
                images =
                    rw (zero-newton n q C P d y a, zero-newton n q C R d z a)
                    (ring (P a ∷ R a ∷ newton_scale d ∷ []) (λ p r w. p ⊗ w ⊖ r ⊗ w) (λ p r w. (p ⊖ r) ⊗ w) refl)
