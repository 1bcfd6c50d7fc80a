-- `ranges::within` meets its contract: z is below -most exactly where it is at most -1 - most.
use mathlib.Core.Path.{◌≡◌, ◌∙◌}
use mathlib.Core.Bool.{true, false}
use lib.IntN.{ℤ, negsuc, neg_ℤ, ◌-ℤ◌}
use lib.Signed.{le_z, lt_z, ◌≤ℤ◌, ◌<ℤ◌}
use mir.Syntax.{w64}
use mir.Val.{SFits}
use mir.Facts.{to_z-of_z}
use Rattle.integers.proofs.Parts.{zorder}
use Rattle.integers.proofs.Linear.{zlin}
use Rattle.integers.proofs.Order.{lt_z-true, lt_z-false, le-le_z, lt-le_z}
use Rattle.term_checks.specs.Ranges.{is_within}
use Rattle.term_checks.proofs.ranges.within.Goals as goal

fits-less : (m : ℤ) → SFits w64 m → SFits w64 (negsuc 0 -ℤ m)
fits-less m h = simp zlin (omega (zorder, simp zlin at h))

below : (z m : ℤ) → lt_z (negsuc 0 -ℤ m) z ≡ false → false ≡ is_within z m
unfolding is_within
below z m e =
    let h : z ≤ℤ (negsuc 0 -ℤ m) = lt_z-false (negsuc 0 -ℤ m) z e in
    rw (lt-le_z (neg_ℤ m) z (simp zlin (omega (zorder, simp zlin at h))))

not-below : (z m : ℤ) → lt_z (negsuc 0 -ℤ m) z ≡ true → le_z z m ≡ is_within z m
unfolding is_within
not-below z m e =
    let h : (negsuc 0 -ℤ m) <ℤ z = lt_z-true (negsuc 0 -ℤ m) z e in
    rw (le-le_z (neg_ℤ m) z (simp zlin (omega (zorder, simp zlin at h))))

pub overflow_sub-most : goal.overflow_sub-most
overflow_sub-most c = rw (to_z-of_z c.ranges.most) (fits-less _ c.ranges.most)

pub returns-then-most-z : goal.returns-then-most-z
returns-then-most-z c =
    rw (to_z-of_z c.ranges.z, to_z-of_z c.ranges.most)
    (not-below _ _ (rw (
      to_z-of_z c.ranges.z,
      to_z-of_z c.ranges.most,
      to_z-of_z (fits-less _ c.ranges.most),
    ) at c.if-most-z.true))

pub returns-else-most-z : goal.returns-else-most-z
returns-else-most-z c = c.if-most-z.false ∙ below _ _ (rw (
  to_z-of_z c.ranges.z,
  to_z-of_z c.ranges.most,
  to_z-of_z (fits-less _ c.ranges.most),
) at c.if-most-z.false)
