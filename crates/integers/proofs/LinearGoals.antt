-- How linear arithmetic is done. `omega zorder` reads orders and equations of single integers;
-- `simp zlin (omega zorder)` proves one of sums, and `simp zlin at h` hands over a fact of sums. Literals stand to the
-- right of sums and to the left of products.
use mathlib.Core.Path.{◌≡◌}
use lib.IntN.{ℤ, pos, ◌+ℤ◌, ◌-ℤ◌, ◌*ℤ◌}
use lib.Signed.{◌≤ℤ◌, ◌<ℤ◌}
use Rattle.integers.proofs.Parts.{zorder}
use Rattle.integers.proofs.Linear.{zlin}

chain : (a b c : ℤ) → a ≤ℤ b → b <ℤ c → a <ℤ c
chain a b c h k = omega zorder

difference : (a b c d : ℤ) → a ≤ℤ b → c ≤ℤ d → (a -ℤ d) ≤ℤ (b -ℤ c)
difference a b c d h k = simp zlin (omega zorder)

moved : (a b c : ℤ) → (a +ℤ b) ≡ c → (c -ℤ b) ≡ a
moved a b c h = simp zlin (omega (zorder, simp zlin at h))

multiples : (q x : ℤ) → (pos 65536 *ℤ q) ≤ℤ x → x <ℤ (pos 65536 *ℤ (q +ℤ pos 1)) → (pos 131072 *ℤ q) ≤ℤ (pos 2 *ℤ x)
multiples q x h k = simp zlin (omega (zorder, simp zlin at h, simp zlin at k))

many : (a b c d e f g h : ℤ) → a ≤ℤ b → c ≤ℤ d → e ≤ℤ f → g ≤ℤ h → (a +ℤ c +ℤ e +ℤ (g -ℤ h) -ℤ pos 5) ≤ℤ (b +ℤ (d +ℤ f))
many a b c d e f g h p q r s = simp zlin (omega zorder)
