-- One rounding, and not one for each product: two products of 1 make 2, which rounds outward to [0,1]; rounded by
-- themselves they would make [0,2].
use mathlib.Core.Path.{◌≡◌, refl}
use lib.IntN.{ℤ, pos, neg_ℤ}
use Rattle.integers.specs.Rounding.{floor_by, ceil_by}
use Rattle.integers.specs.Least.{min_ℤ, max_ℤ}
use Rattle.lists.specs.Loops.{carry}
use Rattle.intervals.specs.Interval.{point_i, add_i, neg_i, sum_i, wide_i, out_i}
use Rattle.intervals.specs.declared.Interval.{Interval}
use Rattle.matrices.specs.Products.{dot_i, unit_z, entry_b, d_of, b_of, e_of}

abbrev from : ℤ → ℤ → Interval
from a b = record { lo = a; hi = b }

pub d-once : d_of 2 (λ i k. pos 1) (λ k. point_i (pos 1)) 0 ≡ from (pos 0) (pos 1)
unfolding d_of dot_i sum_i carry add_i wide_i out_i floor_by ceil_by min_ℤ max_ℤ
d-once = refl

pub b-once : b_of 2 (λ i k. pos 1) (λ k j. point_i (pos 1)) 0 1 ≡ from (neg_ℤ (pos 1)) (pos 0)
unfolding b_of entry_b unit_z dot_i sum_i carry add_i neg_i wide_i out_i floor_by ceil_by min_ℤ max_ℤ
b-once = refl

pub e-once : e_of 2 (λ i k. point_i (pos 1)) (λ k. point_i (pos 1)) 0 ≡ from (pos 0) (pos 1)
unfolding e_of dot_i sum_i carry add_i wide_i out_i floor_by ceil_by min_ℤ max_ℤ
e-once = refl
