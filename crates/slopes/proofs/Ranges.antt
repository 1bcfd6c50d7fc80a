-- How large terms, equations and slopes can be: with document 01's sizes no sum leaves 64 bits. The bounds do not
-- depend on n.
use mathlib.Core.Path.{◌≡◌, refl, sym, ap, ◌∙◌}
use mathlib.Core.List.{[]}
use Prim.Native.Nat.{ℕ, zero, suc, ◌+◌, ◌*◌, ◌^◌, ◌<◌, ◌≤◌}
use native.Mathlib.Nat.{le_trans, le_refl, le_of_eq, mul_comm, mul-le-mul_left, mul-le-mul_right, pos_of_ne-zero}
use native.Mathlib.Decide.{ℕ_discrete}
use native.Mathlib.Omega.{arith}
use lib.Dec.{lit<, lit≤}
use lib.IntN.{ℤ}
use lib.ListN.{get_or}
use Rattle.sizes.specs.Sizes.{mark, terms_max, end_max, entry_max, degree_max}
use Rattle.lists.specs.Loops.{carry}
use Rattle.intervals.specs.Interval.{sum_i}
use Rattle.intervals.specs.Ranges.{InI, FitsAdd, FitsTimes, FitsScale}
use Rattle.intervals.proofs.Ranges.{in-zero, in-point, in-more, in-mul, in-scale}
use Rattle.intervals.proofs.Ranges.{in_sum, fits-add, fits-times, fits-scale}
use Rattle.intervals.specs.Places.{side_at}
use Rattle.powers.specs.Powers.{power_i}
use Rattle.powers.specs.Ranges.{grow}
use Rattle.powers.proofs.Ranges.{grow-add, grow-mono, grow-scale, in-power}
use Rattle.term_checks.specs.Terms.{degree}
use Rattle.sizes.proofs.Sums.{term-room}
use Rattle.sizes.specs.Bounds.{up_max, term_max, lowered_max, value_max, part_max, slope_max}
use Rattle.intervals.specs.declared.Interval.{Interval}
use Rattle.jobs.specs.declared.Equation.{Equation}
use Rattle.slopes.specs.Terms.{coef_of, exps_of, factor_i, term_over, equation_over, lowered}
use Rattle.slopes.specs.Terms.{term_slope, slope_over, values_over, slopes_over}
use Rattle.slopes.specs.Ranges.{BoxIn, TermIn, EquationIn, SystemIn, FactorIn}
use Rattle.slopes.proofs.Cases.{factor-none, factor-some, term-next, slope-none, slope-some}
use Rattle.slopes.proofs.Exponents.{lowered-at}
use Rattle.slopes.proofs.Places.{values-at, slopes-at}
use Rattle.slopes.proofs.Degrees.{degree-next, degree-mono, degree-lowered, exponent-degree}

-- a coefficient multiplied at most 3 times
cap : (d : ℕ) → d ≤ degree_max → grow d entry_max ≤ term_max
cap d l = le_trans (grow-mono d degree_max entry_max l) (unfold grow in (lit≤ tt))

-- and with one product less
lowered-cap : (d : ℕ) → d + 1 ≤ degree_max → grow d entry_max ≤ lowered_max
lowered-cap d l = le_trans (grow-mono d 2 entry_max (omega arith)) (unfold grow in (lit≤ tt))

-- the exact product with a power of e, before its rounding
product-room : (e A : ℕ) → A * grow e mark ≤ mark * grow e A
product-room e A = le_of_eq (grow-scale e A mark ∙ ap (grow e) (mul_comm A mark) ∙ sym (grow-scale e mark A))

pub in-factor : {A : ℕ} {a x : Interval} (e : ℕ) → InI A a → InI end_max x → InI (grow e A) (factor_i e a x)
in-factor zero h k = unfold grow in (rw (factor-none 0 _ _ refl) h)
in-factor {A} {a} {x} (suc e) h k =
    rw (factor-some (suc e) a x (omega arith))
    (in-mul (grow (suc e) A) (product-room (suc e) A) h (in-power k (suc e) (omega arith)))

-- what the product of a factor asks
pub factor-fits : {e : ℕ} {a x : Interval} → FactorIn e a x → 0 < e → FitsTimes a (power_i e x)
factor-fits {e} p s = fits-times room p.start (in-power p.unknown e s)
  where
    room : p.size * grow e mark ≤ up_max
    room = le_trans (product-room e p.size) (le_trans (mul-le-mul_left mark p.room) term-room)

-- a lowered term is a term of document 01 too
lowered-in : {n : ℕ} {c : ℤ} {e : ℕ → ℕ} (j : ℕ) → j < n → 0 < e j → TermIn n c e → TermIn n c (lowered j e)
lowered-in {n} {e = e} j l s h = record { coef = h.coef; deg = omega (arith, degree-lowered e n j l s, h.deg) }

-- a sum of at most 16 parts: its bound, and what each addition asks
module _ {count B : ℕ} {f : ℕ → Interval} (few : count ≤ terms_max) (each : (t : ℕ) → t < count → InI B (f t)) where
  in-total : (i : ℕ) → i ≤ count → InI (terms_max * B) (sum_i i f)
  in-total i l = in-more (mul-le-mul_right B (le_trans l few)) (in_sum i B f (λ t m. each t (omega arith)))

  total-fits : terms_max * B + B < 2 ^ 63 → (i : ℕ) → i < count → FitsAdd (sum_i i f) (f i)
  total-fits small i l = fits-add small (in-total i (omega arith)) (each i l)

module _ {n : ℕ} {X : ℕ → Interval} (box : BoxIn n X) where
  module _ {c : ℤ} {e : ℕ → ℕ} (h : TermIn n c e) where
    -- the term over the first k unknowns
    in-first : (k : ℕ) → k ≤ n → InI (grow (degree k e) entry_max) (term_over k c e X)
    unfolding degree carry grow
    in-first zero l = unfold term_over carry in (in-point h.coef)
    in-first (suc k) l =
        rw (term-next c e X k)
        (in-more (le_of_eq (grow-add (e k) (degree k e) entry_max))
        (in-factor (e k) (in-first k (omega arith)) (box.each k l)))

    -- what the term asks at unknown k
    pub term-factor : (k : ℕ) → k < n → FactorIn (e k) (term_over k c e X) (X k)
    term-factor k l = record {
      size = grow (degree k e) entry_max;
      start = in-first k (omega arith);
      unknown = box.each k l;
      room = rw (grow-add, ← degree-next e k) (cap (degree (suc k) e) (le_trans (degree-mono e (suc k) n l) h.deg));
    }

    pub in-term : InI term_max (term_over n c e X)
    in-term = in-more (cap (degree n e) h.deg) (in-first n (le_refl n))

  module _ {c : ℤ} {e : ℕ → ℕ} (h : TermIn n c e) (j : ℕ) (l : j < n) where
    in-lowered : 0 < e j → InI lowered_max (term_over n c (lowered j e) X)
    in-lowered s =
        let d = degree-lowered e n j l s in
        in-more (lowered-cap (degree n (lowered j e)) (omega (arith, h.deg)))
        (in-first (lowered-in j l s h) n (le_refl n))

    -- what the lowered term asks at unknown k
    pub lowered-factor : 0 < e j → (k : ℕ) → k < n → {d : ℕ} {a : Interval}
        → a ≡ term_over k c (lowered j e) X → d ≡ lowered j (λ _. e k) k → FactorIn d a (X k)
    lowered-factor s k m p q = rw (p, q ∙ lowered-at j e k) (term-factor (lowered-in j l s h) k m)

    pub slope-fits : 0 < e j → FitsScale (e j) (term_over n c (lowered j e) X)
    slope-fits s = fits-scale (e j) (omega (arith, exponent-degree e n j l, h.deg)) (in-lowered s)

    pub in-part : InI part_max (term_slope n c e j X)
    in-part = by (ℕ_discrete (e j) 0)
      where
        by : Dec (e j ≡ 0) → InI part_max (term_slope n c e j X)
        by (yes p) = rw (slope-none c e X n j p) in-zero
        by (no p) = rw (slope-some c e X n j p)
            (in-more (omega (arith, exponent-degree e n j l, h.deg)) (in-scale (e j) (in-lowered (pos_of_ne-zero p))))

  module _ {q : Equation} (h : EquationIn n q) where
    pub in-equation : InI value_max (equation_over n q X)
    unfolding equation_over
    in-equation = in-total h.count (λ t m. in-term (h.each t m)) q.count (le_refl _)

    -- what the sum asks at term t
    pub equation-fits : (t : ℕ) → t < q.count
        → FitsAdd (sum_i t (λ k. term_over n (coef_of q k) (exps_of q k) X)) (term_over n (coef_of q t) (exps_of q t) X)
    equation-fits t l = total-fits h.count (λ k m. in-term (h.each k m)) (lit< tt) t l

    module _ (j : ℕ) (l : j < n) where
      pub in-slope : InI slope_max (slope_over n q j X)
      unfolding slope_over
      in-slope = in-total h.count (λ t m. in-part (h.each t m) j l) q.count (le_refl _)

      pub slope-sum-fits : (t : ℕ) → t < q.count → FitsAdd (sum_i t (λ k. term_slope n (coef_of q k) (exps_of q k) j X))
          (term_slope n (coef_of q t) (exps_of q t) j X)
      slope-sum-fits t m = total-fits h.count (λ k m. in-part (h.each k m) j l) (lit< tt) t m

  -- F and S, place by place
  module _ {q : ℕ → Equation} (h : SystemIn n q) (i : ℕ) (l : i < n) where
    pub in-values : InI value_max (side_at (values_over n q X) i)
    in-values = rw (values-at box.places q X i l) (in-equation (h.each i l))

    pub in-slopes : (j : ℕ) → j < n → InI slope_max (side_at (get_or (slopes_over n q X) i []) j)
    in-slopes j m = rw (slopes-at box.places q X i l j m) (in-slope (h.each i l) j m)
