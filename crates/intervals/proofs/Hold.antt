-- What lies in intervals: sums, negations, multiples, products and roundings of intervals hold those of their members.
use mathlib.Core.List.{[], ◌∷◌}
use mathlib.Core.Path.{◌≡◌, refl}
use Prim.Native.Nat.{ℕ, zero, suc, ◌<◌}
use native.Mathlib.Omega.{arith}
use lib.IntN.{ℤ, pos, neg_ℤ, ◌+ℤ◌, ◌*ℤ◌}
use lib.Signed.{◌≤ℤ◌, ◌<ℤ◌}
use Rattle.integers.proofs.Commutative.{*ℤ-distrib-l, *ℤ-distrib-r, *ℤ-assoc, neg-*ℤ}
use Rattle.integers.proofs.Parts.{zorder}
use Rattle.integers.proofs.Linear.{zlin}
use Rattle.integers.proofs.Ring.{◌⊗◌, ring}
use Rattle.integers.proofs.Order.{cancel-r, mul-mono-r, above-l, above-r, below-l, below-r, nonneg, pos-mul}
use Rattle.integers.specs.Least.{min4, max4}
use Rattle.integers.proofs.Least.{min4-1, min4-2, min4-3, min4-4, max4-1, max4-2, max4-3, max4-4}
use Rattle.integers.specs.Sums.{sum_to}
use Rattle.lists.specs.Loops.{carry}
use Rattle.intervals.specs.declared.Interval.{Interval}
use Rattle.intervals.specs.Interval.{mark, zero_i, point_i, add_i, neg_i, sum_i, scale_i, wide_i, out_i, mul_i}
use Rattle.intervals.specs.Fraction.{In}
use Rattle.intervals.proofs.Rounding.{out-low, out-high}

pub hold-point : (c : ℤ) → In c (pos 1) (point_i c)
hold-point c = record { den = omega zorder; low = simp zlin (omega zorder); high = simp zlin (omega zorder) }

-- a whole number of marks, over any denominator
pub hold-const : (c : ℤ) {U : ℤ} → pos 0 <ℤ U → In (c *ℤ U) U (point_i c)
hold-const c h = record { den = h; low = omega zorder; high = omega zorder }

pub hold-zero : {U : ℤ} → pos 0 <ℤ U → In (pos 0) U zero_i
hold-zero h = record { den = h; low = simp zlin (omega zorder); high = simp zlin (omega zorder) }

-- the same fraction, with a larger denominator
pub hold-raise : {u U W : ℤ} {A : Interval} → In u U A → pos 0 <ℤ W → In (u *ℤ W) (U *ℤ W) A
hold-raise {u} {U} {W} {A} h w = record {
  den = pos-mul h.den w;
  low = rw (← *ℤ-assoc A.lo U W) (mul-mono-r h.low (nonneg w));
  high = rw (← *ℤ-assoc A.hi U W) (mul-mono-r h.high (nonneg w));
}

-- and with a common factor taken away
pub hold-cancel : {u U W : ℤ} {A : Interval} → pos 0 <ℤ U → pos 0 <ℤ W → In (u *ℤ W) (U *ℤ W) A → In u U A
hold-cancel {u} {U} {W} {A} p w h = record {
  den = p;
  low = cancel-r (A.lo *ℤ U) u W w (rw (*ℤ-assoc A.lo U W) h.low);
  high = cancel-r u (A.hi *ℤ U) W w (rw (*ℤ-assoc A.hi U W) h.high);
}

-- an interval that holds something is not empty, and holds its ends
pub hold-order : {u U : ℤ} {A : Interval} → In u U A → A.lo ≤ℤ A.hi
hold-order {u} {U} {A} h = cancel-r A.lo A.hi U h.den (omega (zorder, h.low, h.high))

pub hold-low : (A : Interval) → A.lo ≤ℤ A.hi → In A.lo (pos 1) A
hold-low A h = record { den = omega zorder; low = simp zlin (omega zorder); high = simp zlin (omega zorder) }

pub hold-high : (A : Interval) → A.lo ≤ℤ A.hi → In A.hi (pos 1) A
hold-high A h = record { den = omega zorder; low = simp zlin (omega zorder); high = simp zlin (omega zorder) }

pub hold-add : {u v U : ℤ} {A B : Interval} → In u U A → In v U B → In (u +ℤ v) U (add_i A B)
unfolding add_i
hold-add {u} {v} {U} {A} {B} h k = record {
  den = h.den;
  low = rw (*ℤ-distrib-r A.lo B.lo U) (simp zlin (omega (zorder, h.low, k.low)));
  high = rw (*ℤ-distrib-r A.hi B.hi U) (simp zlin (omega (zorder, h.high, k.high)));
}

pub hold-neg : {u U : ℤ} {A : Interval} → In u U A → In (neg_ℤ u) U (neg_i A)
unfolding neg_i
hold-neg {u} {U} {A} h = record {
  den = h.den;
  low = rw (neg-*ℤ A.hi U) (simp zlin (omega (zorder, h.high)));
  high = rw (neg-*ℤ A.lo U) (simp zlin (omega (zorder, h.low)));
}

pub hold-sum : (n : ℕ) (f : ℕ → ℤ) (G : ℕ → Interval) {U : ℤ} → pos 0 <ℤ U → ((k : ℕ) → k < n → In (f k) U (G k))
    → In (sum_to n f) U (sum_i n G)
unfolding sum_to sum_i carry
hold-sum zero f G p h = hold-zero p
hold-sum (suc n) f G p h = hold-add (hold-sum n f G p (λ k l. h k (omega arith))) (h n (omega arith))

-- the mean of two members, weighted by their denominators
pub hold-mean : {u v U W : ℤ} {A : Interval} → In u U A → In v W A → In (u +ℤ v) (U +ℤ W) A
hold-mean {u} {v} {U} {W} {A} h k = record {
  den = simp zlin (omega (zorder, h.den, k.den));
  low = rw (*ℤ-distrib-l A.lo U W) (simp zlin (omega (zorder, h.low, k.low)));
  high = rw (*ℤ-distrib-l A.hi U W) (simp zlin (omega (zorder, h.high, k.high)));
}

-- e times a member
pub hold-scale : (e : ℕ) {u U : ℤ} {A : Interval} → pos 0 <ℤ U → In u (U *ℤ pos e) A → In u U (scale_i e A)
unfolding scale_i
hold-scale e {u} {U} {A} p h = record { den = p; low = rw (turn A.lo) h.low; high = rw (turn A.hi) h.high }
  where
    turn : (a : ℤ) → (pos e *ℤ a) *ℤ U ≡ a *ℤ (U *ℤ pos e)
    turn a = ring (pos e ∷ a ∷ U ∷ []) (λ e a u. (e ⊗ a) ⊗ u) (λ e a u. a ⊗ (u ⊗ e)) refl

-- the exact product: first one factor moves between its ends, then the other
pub hold-wide : {u U v W : ℤ} {A B : Interval} → In u U A → In v W B → In (u *ℤ v) (U *ℤ W) (wide_i A B)
unfolding wide_i
hold-wide {u} {U} {v} {W} {A} {B} h k =
    let a = A.lo in let b = A.hi in let c = B.lo in let d = B.hi in
    let L = min4 (a *ℤ c) (a *ℤ d) (b *ℤ c) (b *ℤ d) in
    let H = max4 (a *ℤ c) (a *ℤ d) (b *ℤ c) (b *ℤ d) in
    let M = U *ℤ W in
    record {
      den = pos-mul h.den k.den;
      low = above-l {M = L *ℤ M} u k.low k.high
          (above-r {M = L *ℤ M} (c *ℤ W) h.low h.high (below L a c (min4-1 _ _ _ _))
          (below L b c (min4-3 _ _ _ _)))
          (above-r {M = L *ℤ M} (d *ℤ W) h.low h.high (below L a d (min4-2 _ _ _ _))
          (below L b d (min4-4 _ _ _ _)));
      high = below-l {M = H *ℤ M} u k.low k.high
          (below-r {M = H *ℤ M} (c *ℤ W) h.low h.high (above H a c (max4-1 _ _ _ _))
          (above H b c (max4-3 _ _ _ _)))
          (below-r {M = H *ℤ M} (d *ℤ W) h.low h.high (above H a d (max4-2 _ _ _ _))
          (above H b d (max4-4 _ _ _ _)));
    }
  where
    swap : (x y : ℤ) → (x *ℤ y) *ℤ (U *ℤ W) ≡ (x *ℤ U) *ℤ (y *ℤ W)
    swap x y = ring (x ∷ y ∷ U ∷ W ∷ []) (λ x y u v. (x ⊗ y) ⊗ (u ⊗ v)) (λ x y u v. (x ⊗ u) ⊗ (y ⊗ v)) refl

    below : (L x y : ℤ) → L ≤ℤ (x *ℤ y) → (L *ℤ (U *ℤ W)) ≤ℤ ((x *ℤ U) *ℤ (y *ℤ W))
    below L x y l = rw (← swap x y) (mul-mono-r l (nonneg (pos-mul h.den k.den)))

    above : (H x y : ℤ) → (x *ℤ y) ≤ℤ H → ((x *ℤ U) *ℤ (y *ℤ W)) ≤ℤ (H *ℤ (U *ℤ W))
    above H x y l = rw (← swap x y) (mul-mono-r l (nonneg (pos-mul h.den k.den)))

-- one outward rounding
pub hold-out : {u U : ℤ} {A : Interval} → In u U A → In u (U *ℤ pos mark) (out_i A)
hold-out {u} {U} {A} h = record {
  den = pos-mul h.den (omega zorder);
  low = rw (turn (out_i A).lo) (omega (zorder, mul-mono-r (out-low A) (nonneg h.den), h.low));
  high = rw (turn (out_i A).hi) (omega (zorder, mul-mono-r (out-high A) (nonneg h.den), h.high));
}
  where
    turn : (x : ℤ) → x *ℤ (U *ℤ pos mark) ≡ (pos mark *ℤ x) *ℤ U
    turn x = ring (x ∷ U ∷ pos mark ∷ []) (λ x u m. x ⊗ (u ⊗ m)) (λ x u m. (m ⊗ x) ⊗ u) refl

-- the product holds products
pub hold-mul : {u U v W : ℤ} {A B : Interval} → In u U A → In v W B → In (u *ℤ v) ((U *ℤ W) *ℤ pos mark) (mul_i A B)
unfolding mul_i
hold-mul h k = hold-out (hold-wide h k)
