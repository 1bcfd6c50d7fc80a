-- Laws of the absolute value.
use mathlib.Core.Path.{◌≡◌, refl, ap}
use Prim.Native.Nat.{ℕ, zero, suc}
use lib.IntN.{ℤ, pos, negsuc, neg_ℤ, ◌+ℤ◌, ◌*ℤ◌}
use lib.Signed.{◌≤ℤ◌, ◌<ℤ◌}
use Rattle.integers.specs.Absolute.{abs_ℤ}
use Rattle.integers.specs.Sums.{sum_to}
use Rattle.integers.proofs.Parts.{zorder, neg-pos_part, neg-neg_part}
use Rattle.integers.proofs.Linear.{zlin, abs-pn}
use Rattle.integers.proofs.Ranges.{abs-*ℤ}

pub abs-nonneg : (x : ℤ) → pos 0 ≤ℤ abs_ℤ x
unfolding abs_ℤ
abs-nonneg x = omega zorder

pub abs-ge : (x : ℤ) → x ≤ℤ abs_ℤ x
unfolding abs_ℤ
abs-ge x = omega (zorder, abs-pn x)

pub abs-pos : (x : ℤ) → pos 0 ≤ℤ x → abs_ℤ x ≡ x
unfolding abs_ℤ
abs-pos (pos n) h = refl
abs-pos (negsuc n) h = absurd (no h)
  where
    no : pos 0 ≤ℤ negsuc n → ⊥
    no h = omega zorder

pub abs_neg : (x : ℤ) → x <ℤ pos 0 → abs_ℤ x ≡ neg_ℤ x
unfolding abs_ℤ
abs_neg (pos n) h = absurd (no h)
  where
    no : pos n <ℤ pos 0 → ⊥
    no h = omega zorder
abs_neg (negsuc n) h = refl

pub abs-none : (x : ℤ) → abs_ℤ x ≤ℤ pos 0 → x ≡ pos 0
unfolding abs_ℤ
abs-none x h = omega (zorder, abs-pn x)

pub abs-le : (x b : ℤ) → x ≤ℤ b → neg_ℤ x ≤ℤ b → abs_ℤ x ≤ℤ b
unfolding abs_ℤ
abs-le (pos n) b h k = h
abs-le (negsuc n) b h k = k

pub abs-ge-neg : (x : ℤ) → neg_ℤ x ≤ℤ abs_ℤ x
unfolding abs_ℤ
abs-ge-neg x = omega (zorder, abs-pn x, neg-pos_part x, neg-neg_part x)

pub abs-add : (x y : ℤ) → abs_ℤ (x +ℤ y) ≤ℤ (abs_ℤ x +ℤ abs_ℤ y)
abs-add x y =
    abs-le (x +ℤ y) (abs_ℤ x +ℤ abs_ℤ y) (simp zlin (omega (zorder, abs-ge x, abs-ge y)))
    (simp zlin (omega (zorder, simp zlin at (abs-ge-neg x), simp zlin at (abs-ge-neg y))))

pub abs-mul : (x y : ℤ) → abs_ℤ (x *ℤ y) ≡ abs_ℤ x *ℤ abs_ℤ y
unfolding abs_ℤ
abs-mul x y = ap pos (abs-*ℤ x y)

pub abs-sum : (n : ℕ) (f : ℕ → ℤ) → abs_ℤ (sum_to n f) ≤ℤ sum_to n (λ k. abs_ℤ (f k))
unfolding sum_to
abs-sum zero f = unfold abs_ℤ in (omega zorder)
abs-sum (suc n) f = more (abs-sum n f)
  where
    more : abs_ℤ (sum_to n f) ≤ℤ sum_to n (λ k. abs_ℤ (f k))
        → abs_ℤ (sum_to n f +ℤ f n) ≤ℤ (sum_to n (λ k. abs_ℤ (f k)) +ℤ abs_ℤ (f n))
    more h = simp zlin (omega (zorder, simp zlin at (abs-add (sum_to n f) (f n))))
