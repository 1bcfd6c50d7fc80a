-- Laws of division rounded down and up, by a divisor of at least 1.
use mathlib.Core.Path.{◌≡◌, sym, ap, ◌∙◌}
use mathlib.Core.Logic.{⊎_elim}
use Prim.Native.Nat.{ℕ, suc, ◌*◌, ◌/◌, ◌≤◌, ◌<◌}
use native.Mathlib.Nat.{div-add-mod, mod-lt, mul-suc}
use lib.Dec.{lit<}
use lib.IntN.{ℤ, pos, negsuc, neg_ℤ, ◌+ℤ◌, ◌*ℤ◌, neg_ℤ-neg_ℤ}
use lib.Signed.{◌≤ℤ◌, ◌<ℤ◌}
use Rattle.integers.specs.Rounding.{floor_by, ceil_by}
use Rattle.integers.specs.Ranges.{Within}
use Rattle.integers.proofs.Commutative.{*ℤ-neg}
use Rattle.integers.proofs.Parts.{zorder, neg-pos_part, neg-neg_part}
use Rattle.integers.proofs.Linear.{zlin}
use Rattle.integers.proofs.Order.{mul-mono-l, total_ℤ}
use Rattle.integers.proofs.Ranges.{within, within-hi, within-lo, within-neg}

module _ (m : ℕ) (h : 0 < m) where
  -- the two sides that pin it: m q ≤ x < m q + m
  pub floor-le : (x : ℤ) → (pos m *ℤ floor_by m x) ≤ℤ x
  unfolding floor_by
  floor-le (pos a) = omega (zorder, div-add-mod a m)
  floor-le (negsuc a) =
      let t = pos (m * suc (a / m)) in
      omega (zorder, div-add-mod a m, mod-lt a h, mul-suc m (a / m), neg-pos_part t, neg-neg_part t)

  pub floor-lt : (x : ℤ) → x <ℤ (pos m *ℤ floor_by m x +ℤ pos m)
  unfolding floor_by
  floor-lt (pos a) = omega (zorder, div-add-mod a m, mod-lt a h)
  floor-lt (negsuc a) =
      let t = pos (m * suc (a / m)) in
      simp zlin (omega (zorder, div-add-mod a m, mul-suc m (a / m), neg-pos_part t, neg-neg_part t))

  -- multiples of m that are less than m apart
  under : (q r : ℤ) → (pos m *ℤ q) <ℤ (pos m *ℤ r +ℤ pos m) → q ≤ℤ r
  under q r k = ⊎_elim (λ w. w) (λ w. absurd (no w)) (total_ℤ q r)
    where
      no : r <ℤ q → ⊥
      no w =
          let next : (r +ℤ pos 1) ≤ℤ q = simp zlin (omega zorder) in
          let s : (pos m *ℤ (r +ℤ pos 1)) ≤ℤ (pos m *ℤ q) = mul-mono-l {c = pos m} next (omega zorder) in
          omega (zorder, simp zlin at s, simp zlin at k)

  -- it is the greatest of those: with `floor-le`, q ≤ floor x exactly where m q ≤ x
  pub floor-greatest : (q x : ℤ) → (pos m *ℤ q) ≤ℤ x → q ≤ℤ floor_by m x
  floor-greatest q x k = under q (floor_by m x) (omega (zorder, floor-lt x))

  pub floor-mono : (x y : ℤ) → x ≤ℤ y → floor_by m x ≤ℤ floor_by m y
  floor-mono x y k = floor-greatest (floor_by m x) y (omega (zorder, floor-le x))

  pub floor-unique : (q x : ℤ) → (pos m *ℤ q) ≤ℤ x → x <ℤ (pos m *ℤ q +ℤ pos m) → q ≡ floor_by m x
  floor-unique q x k l = omega (zorder, floor-greatest q x k, under (floor_by m x) q (omega (zorder, floor-le x)))

  -- and their twins: m q - m < x ≤ m q
  pub ceil-ge : (x : ℤ) → x ≤ℤ (pos m *ℤ ceil_by m x)
  unfolding ceil_by
  ceil-ge x = simp zlin (omega (zorder, simp zlin at (floor-le (neg_ℤ x))))

  pub ceil-least : (q x : ℤ) → x ≤ℤ (pos m *ℤ q) → ceil_by m x ≤ℤ q
  unfolding ceil_by
  ceil-least q x k =
      let g : neg_ℤ q ≤ℤ floor_by m (neg_ℤ x) =
      floor-greatest (neg_ℤ q) (neg_ℤ x) (simp zlin (omega (zorder, simp zlin at k))) in
      simp zlin (omega (zorder, simp zlin at g))

  pub ceil-unique : (q x : ℤ) → x ≤ℤ (pos m *ℤ q) → (pos m *ℤ q) <ℤ (x +ℤ pos m) → q ≡ ceil_by m x
  unfolding ceil_by
  ceil-unique q x k l =
      sym (neg_ℤ-neg_ℤ q)
      ∙ ap neg_ℤ (floor-unique (neg_ℤ q) (neg_ℤ x) (simp zlin (omega (zorder, simp zlin at k)))
      (simp zlin (omega (zorder, simp zlin at l))))

  pub ceil-mono : (x y : ℤ) → x ≤ℤ y → ceil_by m x ≤ℤ ceil_by m y
  ceil-mono x y k = ceil-least (ceil_by m y) x (omega (zorder, ceil-ge y))

  pub floor≤ceil : (x : ℤ) → floor_by m x ≤ℤ ceil_by m x
  floor≤ceil x =
      under (floor_by m x) (ceil_by m x) (simp zlin (omega (
        zorder,
        simp zlin at (floor-le x),
        simp zlin at (ceil-ge x),
      )))

  -- two numbers rounded by themselves, and their sum rounded once
  pub floor-super : (x y : ℤ) → (floor_by m x +ℤ floor_by m y) ≤ℤ floor_by m (x +ℤ y)
  floor-super x y =
      floor-greatest (floor_by m x +ℤ floor_by m y) (x +ℤ y)
      (simp zlin (omega (zorder, simp zlin at (floor-le x), simp zlin at (floor-le y))))

  pub ceil-sub : (x y : ℤ) → ceil_by m (x +ℤ y) ≤ℤ (ceil_by m x +ℤ ceil_by m y)
  ceil-sub x y = ceil-least (ceil_by m x +ℤ ceil_by m y) (x +ℤ y)
      (simp zlin (omega (zorder, simp zlin at (ceil-ge x), simp zlin at (ceil-ge y))))

  -- a bound on x that is at most m times B gives B
  pub floor-within : {x : ℤ} {A : ℕ} (B : ℕ) → Within x A → A ≤ m * B → Within (floor_by m x) B
  floor-within {x} {A} B w l = within (floor_by m x) B low high
    where
      low : neg_ℤ (pos B) ≤ℤ floor_by m x
      low =
          floor-greatest (neg_ℤ (pos B)) x
          (rw (*ℤ-neg (pos m) (pos B))
          (omega (
            zorder,
            within-lo w,
            neg-pos_part (pos (m * B)),
            neg-neg_part (pos (m * B)),
            neg-pos_part (pos A),
            neg-neg_part (pos A),
          )))

      high : floor_by m x ≤ℤ pos B
      high = under (floor_by m x) (pos B) (omega (zorder, floor-le x, within-hi w))

  pub ceil-within : {x : ℤ} {A : ℕ} (B : ℕ) → Within x A → A ≤ m * B → Within (ceil_by m x) B
  unfolding ceil_by
  ceil-within B w l = within-neg (floor-within B (within-neg w) l)

-- the middle of two ends, rounded down, is between them
pub mid-lo : (a b : ℤ) → a ≤ℤ b → a ≤ℤ floor_by 2 (a +ℤ b)
mid-lo a b h = floor-greatest 2 (lit< tt) a (a +ℤ b) (simp zlin (omega zorder))

pub mid-hi : (a b : ℤ) → a ≤ℤ b → floor_by 2 (a +ℤ b) ≤ℤ b
mid-hi a b h = omega (zorder, simp zlin at (floor-le 2 (lit< tt) (a +ℤ b)))
