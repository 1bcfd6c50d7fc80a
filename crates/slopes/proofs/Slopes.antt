-- Slopes hold difference quotients: between two fraction points P and R of a box, over one denominator, the difference
-- of an equation's exact values is the sum of the differences of the coordinates, each times a number that lies in the
-- slope over the box.
use mathlib.Core.Path.{◌≡◌, refl, sym, ap, ◌∙◌}
use mathlib.Core.Logic.{⊎_elim}
use mathlib.Core.List.{[], ◌∷◌}
use Prim.Native.Nat.{ℕ, zero, suc, ◌+◌, ◌-◌, ◌≤◌, ◌<◌}
use native.Mathlib.Nat.{not-suc-le-zero, le_of_suc-le-suc, eq-or-lt_of_le}
use native.Mathlib.Omega.{arith}
use lib.IntN.{ℤ, pos, ◌-ℤ◌, ◌*ℤ◌, zero-*ℤ}
use lib.Signed.{◌<ℤ◌}
use Rattle.sizes.specs.Sizes.{degree_max}
use Rattle.integers.specs.Sums.{sum_to}
use Rattle.integers.proofs.Commutative.{*ℤ-assoc}
use Rattle.integers.proofs.Ring.{◌⊖◌, ◌⊗◌, ring}
use Rattle.integers.proofs.Sums.{sum-cong, sum-sub, sum-mul, sum-mul-r, sum-swap}
use Rattle.lists.proofs.Carry.{carry-cong}
use Rattle.intervals.specs.Interval.{point_i}
use Rattle.intervals.specs.Fraction.{In}
use Rattle.intervals.proofs.Hold.{hold-zero, hold-sum, hold-scale, hold-raise}
use Rattle.term_checks.specs.Terms.{degree}
use Rattle.intervals.specs.declared.Interval.{Interval}
use Rattle.jobs.specs.declared.Equation.{Equation}
use Rattle.slopes.specs.Terms.{coef_of, exps_of, factor_i, term_over, lowered, term_slope, slope_over}
use Rattle.slopes.specs.Fractions.{InBox, units_of, power, term_num, DegreesIn, equation_num}
use Rattle.slopes.proofs.Cases.{term-next, slope-none, slope-some}
use Rattle.slopes.proofs.Exponents.{lowered-same, lowered-other}
use Rattle.slopes.proofs.Degrees.{degree-cong, degree-next, exponents-in, degree-lowered}
use Rattle.slopes.proofs.Factors.{power_pos, units-pos, power-add, factor-power, factor-quotient}
use Rattle.slopes.proofs.Values.{hold-term, raised}
use Rattle.slopes.proofs.Walk.{part, part-more, part-last, part_none, walk}

-- ---- a term: what its walk multiplies a difference by lies in its slope
term-cong : (n : ℕ) (c : ℤ) (e f : ℕ → ℕ) (X : ℕ → Interval)
    → ((k : ℕ) → k < n → e k ≡ f k) → term_over n c e X ≡ term_over n c f X
unfolding term_over
term-cong n c e f X h =
    carry-cong n (point_i c) (λ k a. factor_i (e k) a (X k)) (λ k a. factor_i (f k) a (X k))
    (λ k a l. ap (λ (m : ℕ). factor_i m a (X k)) (h k l))

module _ (c : ℤ) (e : ℕ → ℕ) (P R : ℕ → ℤ) (d : ℤ) (X : ℕ → Interval) where
  -- the part of unknown j lies in the lowered term, as often as its exponent says
  abbrev PartIn : ℕ → ℕ → Type 0
  PartIn n j =
      In (part c e P R n j) (power (units_of d) (degree n (lowered j e)) *ℤ pos (e j)) (term_over n c (lowered j e) X)

  -- another unknown after it
  part-other : (n j : ℕ) → j < n → e n ≤ degree_max → In (R n) d (X n) → PartIn n j → PartIn (suc n) j
  part-other n j l g k r =
      let ne : n ≡ j → ⊥ = λ q. omega arith in
      rw (
        part-more c e P R n j l,
        term-next c (lowered j e) X n,
        power-add (units_of d) (degree n (lowered j e)) (lowered j e n) (degree-next (lowered j e) n),
        lowered-other j e n ne,
        turn (power (units_of d) (degree n (lowered j e))) (power (units_of d) (e n)),
      )
      (factor-power r k (e n) g)
    where
      turn : (x y : ℤ) → (x *ℤ y) *ℤ pos (e j) ≡ (x *ℤ pos (e j)) *ℤ y
      turn x y = ring (x ∷ y ∷ pos (e j) ∷ []) (λ x y e. (x ⊗ y) ⊗ e) (λ x y e. (x ⊗ e) ⊗ y) refl

  -- unknown n itself, the last one so far
  part-here : (n a : ℕ) → e n ≡ suc a → ((k : ℕ) → k < suc n → e k ≤ degree_max)
      → ((k : ℕ) → k < suc n → In (P k) d (X k)) → In (R n) d (X n) → PartIn (suc n) n
  part-here n a f g h k =
      let one : suc a - 1 ≡ a = omega arith in
      rw (
        part-last c e P R n,
        term-next c (lowered n e) X n,
        power-add (units_of d) (degree n (lowered n e)) (lowered n e n) (degree-next (lowered n e) n),
        lowered-same n e,
        f,
        one,
        degree-cong n (lowered n e) e below,
        term-cong n c (lowered n e) e X below,
      )
      (factor-quotient (hold-term n c e (λ m u. g m (omega arith)) (λ m u. h m (omega arith))) (h n (omega arith)) k a
      (rw (← f) (g n (omega arith))))
    where
      below : (k : ℕ) → k < n → lowered n e k ≡ e k
      below k l = lowered-other n e k (λ q. omega arith)

  hold-part : (n j : ℕ) → ((k : ℕ) → k < n → e k ≤ degree_max) → ((k : ℕ) → k < n → In (P k) d (X k))
      → ((k : ℕ) → k < n → In (R k) d (X k)) → j < n → (a : ℕ) → e j ≡ suc a → PartIn n j
  hold-part zero j g h k l a f = absurd (not-suc-le-zero l)
  hold-part (suc n) j g h k l a f =
      ⊎_elim here
      (λ m.
      there m (hold-part n j (λ i b. g i (omega arith)) (λ i b. h i (omega arith)) (λ i b. k i (omega arith)) m a f))
      (eq-or-lt_of_le (le_of_suc-le-suc l))
    where
      here : j ≡ n → PartIn (suc n) j
      here p = rw p (part-here n a (rw p at f) g h (k n (omega arith)))

      there : j < n → PartIn n j → PartIn (suc n) j
      there m r = part-other n j m (g n (omega arith)) (k n (omega arith)) r

module _ {n : ℕ} {P R : ℕ → ℤ} {d : ℤ} {X : ℕ → Interval} (h : InBox n P d X) (k : InBox n R d X) where
  hold-slope : (c : ℤ) (e : ℕ → ℕ) → degree n e ≤ degree_max → (j : ℕ) → j < n
      → In (part c e P R n j *ℤ power (units_of d) (degree_max - degree n e)) (power (units_of d) (degree_max - 1))
      (term_slope n c e j X)
  hold-slope c e cubic j l = by (e j) refl
    where
      Q>0 : pos 0 <ℤ units_of d
      Q>0 = units-pos h.den

      by : (a : ℕ) → e j ≡ a
          → In (part c e P R n j *ℤ power (units_of d) (degree_max - degree n e)) (power (units_of d) (degree_max - 1))
          (term_slope n c e j X)
      by zero p =
          rw (slope-none c e X n j p, part_none c e P R n j l p, zero-*ℤ (power (units_of d) (degree_max - degree n e)))
          (hold-zero (power_pos (degree_max - 1) Q>0))
      by (suc a) p =
          let some : e j ≡ 0 → ⊥ = λ q. omega arith in
          let less : degree_max - 1 ≡ degree n (lowered j e) + (degree_max - degree n e) =
          omega (arith, degree-lowered e n j l (omega arith)) in
          let inner = hold-part c e P R d X n j (exponents-in e cubic) h.each k.each l a p in
          rw (slope-some c e X n j some, power-add (units_of d) (degree n (lowered j e)) (degree_max - degree n e) less)
          (hold-raise (hold-scale (e j) (power_pos (degree n (lowered j e)) Q>0) inner)
          (power_pos (degree_max - degree n e) Q>0))

-- ---- an equation
module _ (n : ℕ) (q : Equation) (P R : ℕ → ℤ) (d : ℤ) where
  abbrev bare : ℕ → ℕ → ℤ
  bare j t = part (coef_of q t) (exps_of q t) P R n j

  abbrev full : ℕ → ℕ → ℤ
  full j t = bare j t *ℤ raised n q d t

  -- the numbers of the law below, over (65,536 d) to the power of 2
  pub slope_num : ℕ → ℤ
  slope_num j = sum_to q.count (full j)

  pub slopes-law : equation_num n q P d -ℤ equation_num n q R d ≡ sum_to n (λ j. (P j -ℤ R j) *ℤ slope_num j)
  unfolding equation_num slope_num
  slopes-law =
      sym (sum-sub q.count (value P) (value R))
      ∙ sum-cong q.count (λ t. value P t -ℤ value R t) (λ t. sum_to n (λ j. (P j -ℤ R j) *ℤ full j t)) (λ t _. one t)
      ∙ sum-swap q.count n (λ t j. (P j -ℤ R j) *ℤ full j t)
      ∙ sum-cong n (λ j. sum_to q.count (λ t. (P j -ℤ R j) *ℤ full j t)) (λ j. (P j -ℤ R j) *ℤ slope_num j)
      (λ j _. sum-mul q.count (P j -ℤ R j) (full j))
    where
      at : (ℕ → ℤ) → ℕ → ℤ
      at W t = term_num n (coef_of q t) (exps_of q t) W

      value : (ℕ → ℤ) → ℕ → ℤ
      value W t = at W t *ℤ raised n q d t

      one : (t : ℕ) → value P t -ℤ value R t ≡ sum_to n (λ j. (P j -ℤ R j) *ℤ full j t)
      one t =
          ring (at P t ∷ at R t ∷ raised n q d t ∷ []) (λ a b w. a ⊗ w ⊖ b ⊗ w) (λ a b w. (a ⊖ b) ⊗ w) refl
          ∙ ap (λ (z : ℤ). z *ℤ raised n q d t) (walk (coef_of q t) (exps_of q t) P R n)
          ∙ sym (sum-mul-r n (raised n q d t) (λ j. (P j -ℤ R j) *ℤ bare j t))
          ∙ sum-cong n (λ j. ((P j -ℤ R j) *ℤ bare j t) *ℤ raised n q d t) (λ j. (P j -ℤ R j) *ℤ full j t)
          (λ j _. *ℤ-assoc (P j -ℤ R j) (bare j t) (raised n q d t))

  pub slopes-hold : {X : ℕ → Interval} → DegreesIn n q → InBox n P d X → InBox n R d X
      → (j : ℕ) → j < n → In (slope_num j) (power (units_of d) (degree_max - 1)) (slope_over n q j X)
  unfolding slope_num slope_over
  slopes-hold {X} g h k j l =
      hold-sum q.count (full j) (λ t. term_slope n (coef_of q t) (exps_of q t) j X)
      (power_pos (degree_max - 1) (units-pos h.den))
      (λ t u. hold-slope h k (coef_of q t) (exps_of q t) (g.each t u) j l)
