-- F and S place by place, and that only the first n coordinates of a box count.
use mathlib.Core.Path.{◌≡◌, ap, ◌∙◌}
use mathlib.Core.List.{List, []}
use Prim.Native.Nat.{ℕ, ◌<◌, ◌≤◌}
use lib.ListN.{get_or, replicate}
use Rattle.sizes.specs.Sizes.{n_max}
use Rattle.lists.proofs.Tab.{get_or-tab}
use Rattle.intervals.specs.Interval.{zero_i, point_i}
use Rattle.intervals.proofs.Sums.{sum_i-cong}
use Rattle.lists.proofs.Carry.{carry-cong}
use lib.IntN.{ℤ}
use Rattle.intervals.specs.Places.{side_at}
use Rattle.intervals.specs.declared.Interval.{Interval}
use Rattle.jobs.specs.declared.Equation.{Equation}
use Rattle.slopes.specs.Terms.{coef_of, exps_of, factor_i, term_over, equation_over}
use Rattle.slopes.specs.Terms.{slope_over, values_over, slope_row, slopes_over}

module _ {n : ℕ} (room : n ≤ n_max) (q : ℕ → Equation) (X : ℕ → Interval) (i : ℕ) (l : i < n) where
  pub values-at : side_at (values_over n q X) i ≡ equation_over n (q i) X
  unfolding values_over
  values-at = get_or-tab zero_i n_max n (λ i. equation_over n (q i) X) zero_i i l room

  pub slopes-at : (j : ℕ) → j < n → side_at (get_or (slopes_over n q X) i []) j ≡ slope_over n (q i) j X
  unfolding slopes_over slope_row
  slopes-at j m =
      ap (λ (r : List Interval). side_at r j)
      (get_or-tab (replicate n_max zero_i) n_max n (λ i. slope_row n (q i) X) [] i l room)
      ∙ get_or-tab zero_i n_max n (λ j. slope_over n (q i) j X) zero_i j m room

module _ (n : ℕ) {X Y : ℕ → Interval} (same : (k : ℕ) → k < n → X k ≡ Y k) where
  term-cong : (c : ℤ) (e : ℕ → ℕ) → term_over n c e X ≡ term_over n c e Y
  unfolding term_over
  term-cong c e = carry-cong n (point_i c) (λ k a. factor_i (e k) a (X k)) (λ k a. factor_i (e k) a (Y k))
      (λ k a l. ap (factor_i (e k) a) (same k l))

  pub equation-cong : (q : Equation) → equation_over n q X ≡ equation_over n q Y
  unfolding equation_over
  equation-cong q =
      sum_i-cong q.count (λ t. term_over n (coef_of q t) (exps_of q t) X)
      (λ t. term_over n (coef_of q t) (exps_of q t) Y)
      (λ t _. term-cong (coef_of q t) (exps_of q t))
