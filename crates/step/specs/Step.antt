-- Document 01, "One Krawczyk step on box X with inverse C": the image K, place by place, for the n equations q.
use Rattle.std.specs.Prelude.{List, ℕ, ℤ}
use Rattle.intervals.specs.declared.Interval.{Interval}
use Rattle.intervals.specs.Interval.{point_i, add_i, neg_i, mid_i}
use Rattle.intervals.specs.Places.{side_at, vector_of}
use Rattle.matrices.specs.Products.{d_of, b_of, e_of}
use Rattle.slopes.specs.Terms.{equation_over, slope_over}
use Rattle.jobs.specs.declared.Equation.{Equation}

-- "1. m: in each coordinate the sum of the ends divided by 2, rounded down."
abbrev pub middle_of : (ℕ → Interval) → ℕ → ℤ
middle_of X k = mid_i (X k)

-- "3. D = C F", "4. B = I - C S", "5. Z = X - m. E = B Z", "6. Image K = m - D + E, ends exact", of the box M = [m, m],
-- F and S
abbrev pub image_from : ℕ → (ℕ → ℕ → ℤ) → (ℕ → Interval) → (ℕ → Interval) → (ℕ → Interval)
    → (ℕ → ℕ → Interval) → ℕ → Interval
image_from n C X M F S i = add_i (add_i (M i) (neg_i (d_of n C F i))) (e_of n (b_of n C S) (λ k. add_i (X k) (neg_i (M k))) i)

-- "Z = X - m."
abbrev pub offset_of : (ℕ → Interval) → ℕ → Interval
offset_of X k = add_i (X k) (neg_i (point_i (middle_of X k)))

module _ (n : ℕ) (q : ℕ → Equation) (C : ℕ → ℕ → ℤ) (X : ℕ → Interval) where
  -- "2. F: the equations over the box [m, m]."
  abbrev pub value_of : ℕ → Interval
  value_of i = equation_over n (q i) (λ k. point_i (middle_of X k))

  -- "S: the matrix of slopes over X."
  abbrev pub slope_of : ℕ → ℕ → Interval
  slope_of i j = slope_over n (q i) j X

  unfoldable pub image_of : ℕ → Interval
  image_of i = image_from n C X (λ k. point_i (middle_of X k)) value_of slope_of i

-- K as a box: a list of n_max intervals, those past n zero
unfoldable pub image_box : ℕ → (ℕ → Equation) → (ℕ → ℕ → ℤ) → List Interval → List Interval
image_box n q C x = vector_of n (image_of n q C (side_at x))
