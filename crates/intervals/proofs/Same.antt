-- The derived equality of intervals asks what `same_i` does.
use mathlib.Core.Path.{◌≡◌, ap₂, ◌∙◌}
use mathlib.Core.Bool.{Bool, ◌&&◌}
use lib.IntN.{ℤ}
use Rattle.std.specs.Ordering.{int_eq}
use Rattle.std.proofs.lemmas.Bool.Decides.{Decides-int_eq, same_from_decides}
use Rattle.integers.specs.Equal.{eq_ℤ}
use Rattle.integers.proofs.Equal.{eq_ℤ-refl, eq_ℤ-true}
use Rattle.lists.proofs.All.{both-and}
use Rattle.intervals.specs.declared.Interval.{Interval}
use Rattle.intervals.specs.Interval.{same_i}

number-same : (a b : ℤ) → int_eq a b ≡ eq_ℤ a b
number-same a b =
    same_from_decides _ _ (Decides-int_eq a b) (λ e. eq_ℤ-true a b e, λ (p : a ≡ b). rw p (eq_ℤ-refl b))

pub same_is : (a b : Interval) → (int_eq a.lo b.lo && int_eq a.hi b.hi) ≡ same_i a b
unfolding same_i
same_is a b =
    ap₂ (λ (s t : Bool). s && t) (number-same a.lo b.lo) (number-same a.hi b.hi)
    ∙ both-and (eq_ℤ a.lo b.lo) (eq_ℤ a.hi b.hi)
