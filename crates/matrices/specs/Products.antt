-- Document 01, "One Krawczyk step", lines 3 to 5: D, B and E, place by place.
use Rattle.std.specs.Prelude.{cond, ℕ, ◌*◌, eqb, ℤ, pos}
use Rattle.intervals.specs.declared.Interval.{Interval}
use Rattle.intervals.specs.Interval.{mark, point_i, add_i, neg_i, sum_i, wide_i, out_i}

-- "an exact sum of products of ends"
unfoldable pub dot_i : ℕ → (ℕ → Interval) → (ℕ → Interval) → Interval
dot_i n a b = sum_i n (λ k. wide_i (a k) (b k))

-- "D = C F: each entry is an exact sum of products of ends, then one outward rounding to marks."
unfoldable pub d_of : ℕ → (ℕ → ℕ → ℤ) → (ℕ → Interval) → ℕ → Interval
d_of n C F i = out_i (dot_i n (λ k. point_i (C i k)) F)

-- "I has 65,536 squared on its diagonal before rounding"
unfoldable pub unit_z : ℕ → ℕ → ℤ
unit_z i j = cond (eqb i j) (pos (mark * mark)) (pos 0)

-- "each entry exact .., then one outward rounding", of a row of C and a column of S
unfoldable pub entry_b : ℕ → (ℕ → Interval) → (ℕ → Interval) → ℕ → ℕ → Interval
entry_b n row col i j = out_i (add_i (point_i (unit_z i j)) (neg_i (dot_i n row col)))

-- "B = I - C S"
unfoldable pub b_of : ℕ → (ℕ → ℕ → ℤ) → (ℕ → ℕ → Interval) → ℕ → ℕ → Interval
b_of n C S i j = entry_b n (λ k. point_i (C i k)) (λ k. S k j) i j

-- "E = B Z: products by the four ends, summed exactly, one outward rounding."
unfoldable pub e_of : ℕ → (ℕ → ℕ → Interval) → (ℕ → Interval) → ℕ → Interval
e_of n B Z i = out_i (dot_i n (B i) Z)
