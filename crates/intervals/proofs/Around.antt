-- A product with an interval that holds 0, and which interval does.
use mathlib.Core.Path.{◌≡◌, sym}
use lib.IntN.{ℤ, ◌*ℤ◌}
use lib.Signed.{◌≤ℤ◌}
use Rattle.integers.proofs.Parts.{zorder}
use Rattle.integers.proofs.Linear.{zlin}
use Rattle.integers.proofs.Order.{mul-mono-r, mul-anti-r}
use Rattle.integers.proofs.Rounding.{mid-lo, mid-hi}
use Rattle.integers.specs.Least.{min_ℤ, max_ℤ, min4, max4}
use Rattle.integers.proofs.Least.{min-l, min-r, min-both, max-l, max-r, max-both}
use Rattle.integers.proofs.Least.{min4-2, min4-3, min4-greatest, max4-1, max4-4, max4-least}
use Rattle.intervals.specs.declared.Interval.{Interval}
use Rattle.intervals.specs.Interval.{point_i, add_i, neg_i, mid_i}
use Rattle.intervals.specs.Ranges.{FitsAround, AroundZero}

-- of four numbers, where r ≤ p and q ≤ s
module _ {p q r s : ℤ} (h : r ≤ℤ p) (k : q ≤ℤ s) where
  least-two : min4 p q r s ≡ min_ℤ q r
  least-two =
      let m = min_ℤ q r in
      let over =
      min4-greatest m p q r s (omega (zorder, min-r q r)) (min-l q r) (min-r q r) (omega (zorder, min-l q r)) in
      let under = min-both (λ z. min4 p q r s ≤ℤ z) q r (min4-2 p q r s) (min4-3 p q r s) in
      omega zorder

  greatest-two : max4 p q r s ≡ max_ℤ p s
  greatest-two =
      let m = max_ℤ p s in
      let under : max4 p q r s ≤ℤ m =
      max4-least (max-l p s) (omega (zorder, max-r p s)) (omega (zorder, max-l p s)) (max-r p s) in
      let over = max-both (λ z. z ≤ℤ max4 p q r s) p s (max4-1 p q r s) (max4-4 p q r s) in
      omega zorder

module _ {a b : Interval} (h : FitsAround a b) where
  pub around-low : min_ℤ (a.lo *ℤ b.hi) (a.hi *ℤ b.lo)
      ≡ min4 (a.lo *ℤ b.lo) (a.lo *ℤ b.hi) (a.hi *ℤ b.lo) (a.hi *ℤ b.hi)
  around-low =
      sym (least-two (mul-anti-r h.exact.left h.around.low) (mul-mono-r h.exact.left h.around.high))

  pub around-high : max_ℤ (a.lo *ℤ b.lo) (a.hi *ℤ b.hi)
      ≡ max4 (a.lo *ℤ b.lo) (a.lo *ℤ b.hi) (a.hi *ℤ b.lo) (a.hi *ℤ b.hi)
  around-high =
      sym (greatest-two (mul-anti-r h.exact.left h.around.low) (mul-mono-r h.exact.left h.around.high))

-- an interval less its middle
pub around-offset : (a : Interval) → a.lo ≤ℤ a.hi → AroundZero (add_i a (neg_i (point_i (mid_i a))))
unfolding add_i neg_i mid_i
around-offset a h = record {
  low = simp zlin (omega (zorder, mid-lo a.lo a.hi h));
  high = simp zlin (omega (zorder, mid-hi a.lo a.hi h));
}
