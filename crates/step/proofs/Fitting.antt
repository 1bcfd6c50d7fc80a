-- Each sum that the parts of an image are made of fits.
use mathlib.Core.Path.{◌≡◌}
use Prim.Native.Nat.{ℕ, ◌<◌}
use native.Mathlib.Omega.{arith}
use Rattle.intervals.specs.declared.Interval.{Interval}
use Rattle.intervals.specs.Interval.{add_i, neg_i}
use Rattle.intervals.specs.Ranges.{FitsAdd, FitsNeg}
use Rattle.intervals.proofs.Ranges.{in-add, in-neg, fits-add, fits_neg}
use Rattle.slopes.specs.Ranges.{BoxIn}
use Rattle.step.specs.Ranges.{JoinIn}

-- Z = X - m
module _ {n : ℕ} {X M : ℕ → Interval} (x : BoxIn n X) (m : BoxIn n M) where
  pub turned-middle : (k : ℕ) → k < n → FitsNeg (M k)
  turned-middle k l = fits_neg (omega arith) (m.each k l)

  pub offset-fits : (k : ℕ) {t : Interval} → k < n → t ≡ neg_i (M k) → FitsAdd (X k) t
  offset-fits k l e = rw e (fits-add (omega arith) (x.each k l) (in-neg (m.each k l)))

-- K = m - D + E
module _ {n : ℕ} {M D E : ℕ → Interval} (h : JoinIn n M D E) where
  pub turned-d : (i : ℕ) → i < n → FitsNeg (D i)
  turned-d i l = fits_neg (omega arith) (h.d i l)

  pub newton-fits : (i : ℕ) {t : Interval} → i < n → t ≡ neg_i (D i) → FitsAdd (M i) t
  newton-fits i l e = rw e (fits-add (omega arith) (h.middles i l) (in-neg (h.d i l)))

  pub joined-fits : (i : ℕ) {s t : Interval} → i < n → t ≡ neg_i (D i) → s ≡ add_i (M i) t → FitsAdd s (E i)
  joined-fits i l e q = rw (q, e) (fits-add (omega arith) (in-add (h.middles i l) (in-neg (h.d i l))) (h.e i l))
