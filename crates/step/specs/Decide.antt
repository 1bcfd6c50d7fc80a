-- Document 01, "One Krawczyk step": what the image K decides on the box X. A box is a list of n_max intervals, those
-- past n zero.
use Rattle.std.specs.Prelude.{Bool, not, cond, List, ℕ, ℤ}
use Rattle.lists.specs.Loops.{all_b}
use Rattle.intervals.specs.Interval.{meets_i, inside_i, same_i, cut_i}
use Rattle.intervals.specs.Places.{side_at, vector_of}
use Rattle.intervals.specs.declared.Interval.{Interval}
use Rattle.jobs.specs.declared.Equation.{Equation}
use Rattle.step.specs.declared.Move.{Move}
use Rattle.step.specs.declared.Decision.{Decision}
use Rattle.step.specs.Step.{image_box}

-- does every coordinate of K meet that of X? Where not, "some coordinate of K does not meet that of X".
unfoldable pub all_meet : ℕ → List Interval → List Interval → Bool
all_meet n x k = all_b n (λ i. meets_i (side_at x i) (side_at k i))

-- "in every coordinate, X low < K low and K high < X high"
unfoldable pub all_inside : ℕ → List Interval → List Interval → Bool
all_inside n x k = all_b n (λ i. inside_i (side_at x i) (side_at k i))

-- "K cut with X"
unfoldable pub cut_box : ℕ → List Interval → List Interval → List Interval
cut_box n x k = vector_of n (λ i. cut_i (side_at x i) (side_at k i))

-- "K cut with X is X itself"
unfoldable pub cut_same : ℕ → List Interval → List Interval → Bool
cut_same n x k = all_b n (λ i. same_i (cut_i (side_at x i) (side_at k i)) (side_at x i))

abbrev pub decision : Move → List Interval → Decision
decision move x = record { what = move; sides = x }

-- "Then, in this order": none with box X, unique with box K, stalled with box X, "otherwise X becomes K cut with X"
unfoldable pub decide_of : ℕ → List Interval → List Interval → Decision
decide_of n x k =
    cond (not (all_meet n x k)) (decision Move.None x)
    (cond (all_inside n x k) (decision Move.Unique k)
    (cond (cut_same n x k) (decision Move.Stalled x)
    (decision Move.Next (cut_box n x k))))

-- the whole step on X: what its image decides
unfoldable pub step_of : ℕ → (ℕ → Equation) → (ℕ → ℕ → ℤ) → List Interval → Decision
step_of n q C x = decide_of n x (image_box n q C x)
