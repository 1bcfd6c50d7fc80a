-- The image of a step: what it takes is in range, and the code's lists of middles, values and slopes give it.
use mathlib.Core.Path.{◌≡◌, ap, refl, ◌∙◌}
use mathlib.Core.List.{List}
use Prim.Native.Nat.{ℕ, ◌<◌}
use lib.IntN.{ℤ}
use Rattle.sizes.specs.Sizes.{n_max, end_max}
use Rattle.sizes.specs.Bounds.{value_max, slope_max, k_max}
use Rattle.lists.proofs.Tab.{tab-cong}
use Rattle.intervals.specs.Interval.{zero_i, point_i, add_i, neg_i}
use Rattle.intervals.specs.Places.{side_at, cell_at, vector_of}
use Rattle.intervals.specs.Ranges.{InI, AroundZero}
use Rattle.intervals.proofs.Places.{side-made, cell-made}
use Rattle.intervals.proofs.Ranges.{in-point, in-mid}
use Rattle.intervals.proofs.Around.{around-offset}
use Rattle.matrices.specs.Products.{b_of}
use Rattle.matrices.proofs.Live.{d-cong, b-cong, e-cong}
use Rattle.slopes.specs.Terms.{equation_over, slope_over, values_over, slope_row, slopes_over}
use Rattle.slopes.specs.Ranges.{BoxIn}
use Rattle.slopes.proofs.Ranges.{in-equation, in-slope}
use Rattle.slopes.proofs.Places.{equation-cong}
use Rattle.intervals.specs.declared.Interval.{Interval}
use Rattle.jobs.specs.declared.Equation.{Equation}
use Rattle.step.specs.Step.{middle_of, offset_of, value_of, slope_of, image_from, image_of}
use Rattle.step.specs.Ranges.{StepIn, ImageIn}
use Rattle.step.proofs.Live.{sum_of}
use Rattle.step.proofs.Parts.{from_in}

module _ {n : ℕ} {q : ℕ → Equation} {C : ℕ → ℕ → ℤ} {X : ℕ → Interval} (h : StepIn n q C X) where
  middle-in : (k : ℕ) → k < n → InI end_max (point_i (middle_of X k))
  middle-in k l = in-point (in-mid (h.box.each k l))

  offset-around : (k : ℕ) → k < n → AroundZero (offset_of X k)
  offset-around k l = around-offset (X k) (h.box.each k l).order

  value_in : (k : ℕ) → k < n → InI value_max (value_of n q C X k)
  value_in k l = in-equation (record { places = h.box.places; each = middle-in }) (h.system.each k l)

  slope-in : (i j : ℕ) → i < n → j < n → InI slope_max (slope_of n q C X i j)
  slope-in i j l m = in-slope h.box (h.system.each i l) j m

  pub image-in : (i : ℕ) → i < n → InI k_max (image_of n q C X i)
  unfolding image_of
  image-in = from_in (record {
    inverse = h.inverse;
    box = h.box;
    middles = record { places = h.box.places; each = middle-in };
    around = offset-around;
    values = value_in;
    slopes = slope-in;
  })

  -- the lists m, f and s of the code, each as its contract has it
  module _ {m : List Interval} (made-m : m ≡ vector_of n (λ k. point_i (middle_of X k))) where
    m-at : (k : ℕ) → k < n → side_at m k ≡ point_i (middle_of X k)
    m-at k l = side-made n h.box.places (λ k. point_i (middle_of X k)) made-m k l

    pub m-in : BoxIn n (side_at m)
    m-in = record { places = h.box.places; each = λ k l. rw (m-at k l) (middle-in k l) }

    module _ {f : List Interval} {s : List (List Interval)} (made-f : f ≡ values_over n q (side_at m))
        (made-s : s ≡ slopes_over n q X) where
      f-at : (k : ℕ) → k < n → side_at f k ≡ value_of n q C X k
      unfolding values_over
      f-at k l =
          side-made n h.box.places (λ i. equation_over n (q i) (side_at m)) made-f k l ∙ equation-cong n m-at (q k)

      s-at : (i j : ℕ) → i < n → j < n → cell_at s i j ≡ slope_of n q C X i j
      unfolding slopes_over slope_row
      s-at i j l m = cell-made n h.box.places (λ i j. slope_over n (q i) j X) made-s i j l m

      pub asked : ImageIn n C X (side_at m) (side_at f) (cell_at s)
      asked = record {
        inverse = h.inverse;
        box = h.box;
        middles = m-in;
        around = λ k l. rw (m-at k l) (offset-around k l);
        values = λ k l. rw (f-at k l) (value_in k l);
        slopes = λ i j l u. rw (s-at i j l u) (slope-in i j l u);
      }

      pub image-is : vector_of n (image_from n C X (side_at m) (side_at f) (cell_at s)) ≡ vector_of n (image_of n q C X)
      unfolding image_of
      image-is = tab-cong zero_i n_max n _ _ (λ i l.
          sum_of (m-at i l) (d-cong n C C i (λ k _. refl) f-at)
          (e-cong n (b_of n C (cell_at s)) (b_of n C (slope_of n q C X)) i
          (λ j u. b-cong n C C i (λ k _. refl) (cell_at s) (slope_of n q C X) j (λ k v. s-at k j v u))
          (λ k u. ap (λ (p : Interval). add_i (X k) (neg_i p)) (m-at k u))))
