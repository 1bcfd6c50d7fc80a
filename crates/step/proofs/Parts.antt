-- The image from its parts: every part of it is in range, and the code's lists hold the parts place by place.
use mathlib.Core.Path.{◌≡◌, refl, ◌∙◌}
use mathlib.Core.List.{List}
use Prim.Native.Nat.{ℕ, ◌<◌}
use lib.IntN.{ℤ}
use Rattle.sizes.specs.Sizes.{n_max}
use Rattle.sizes.specs.Bounds.{z_max, e_max, k_max}
use Rattle.lists.proofs.Tab.{tab-cong}
use Rattle.intervals.specs.declared.Interval.{Interval}
use Rattle.intervals.specs.Interval.{zero_i, add_i, neg_i}
use Rattle.intervals.specs.Places.{side_at, cell_at, vector_of, matrix_of}
use Rattle.intervals.specs.Ranges.{InI}
use Rattle.intervals.proofs.Places.{side-made, cell-made}
use Rattle.intervals.proofs.Ranges.{in-add, in-neg}
use Rattle.matrices.specs.Products.{d_of, b_of, e_of}
use Rattle.matrices.specs.Ranges.{DIn, BIn, EIn}
use Rattle.matrices.proofs.Ranges.{in-d, in_b, in_e}
use Rattle.matrices.proofs.Live.{e-cong}
use Rattle.step.specs.Step.{image_from}
use Rattle.step.specs.Ranges.{ImageIn, JoinIn}
use Rattle.step.proofs.Live.{sum_of}

module _ {n : ℕ} {C : ℕ → ℕ → ℤ} {X M F : ℕ → Interval} {S : ℕ → ℕ → Interval} (h : ImageIn n C X M F S) where
  abbrev offset : ℕ → Interval
  offset k = add_i (X k) (neg_i (M k))

  offset-in : (k : ℕ) → k < n → InI z_max (offset k)
  offset-in k l = in-add (h.box.each k l) (in-neg (h.middles.each k l))

  pub d-in : DIn n C F
  d-in = record { room = h.box.places; inverse = h.inverse.each; values = h.values }

  pub b-in : BIn n C S
  b-in = record { room = h.box.places; inverse = h.inverse.each; slopes = h.slopes }

  e-part : (i : ℕ) → i < n → InI e_max (e_of n (b_of n C S) offset i)
  e-part = in_e (record {
    room = h.box.places;
    factors = λ i k l m. in_b b-in i l k m;
    sides = offset-in;
    around = h.around;
  })

  pub from_in : (i : ℕ) → i < n → InI k_max (image_from n C X M F S i)
  from_in i l = in-add (in-add (h.middles.each i l) (in-neg (in-d d-in i l))) (e-part i l)

  -- the lists b, z, d and e of the code, each as its function's contract has it
  module _ {b : List (List Interval)} {z : List Interval}
      (made-b : b ≡ matrix_of n (b_of n C S)) (made-z : z ≡ vector_of n offset) where
    b_at : (i j : ℕ) → i < n → j < n → cell_at b i j ≡ b_of n C S i j
    b_at i j l m = cell-made n h.box.places (b_of n C S) made-b i j l m

    z-at : (k : ℕ) → k < n → side_at z k ≡ offset k
    z-at k l = side-made n h.box.places offset made-z k l

    pub e-in : EIn n (cell_at b) (side_at z)
    e-in = record {
      room = h.box.places;
      factors = λ i k l m. rw (b_at i k l m) (in_b b-in i l k m);
      sides = λ k l. rw (z-at k l) (offset-in k l);
      around = λ k l. rw (z-at k l) (h.around k l);
    }

    module _ {d e : List Interval} (made-d : d ≡ vector_of n (d_of n C F))
        (made-e : e ≡ vector_of n (e_of n (cell_at b) (side_at z))) where
      d-at : (i : ℕ) → i < n → side_at d i ≡ d_of n C F i
      d-at i l = side-made n h.box.places (d_of n C F) made-d i l

      e-at : (i : ℕ) → i < n → side_at e i ≡ e_of n (b_of n C S) offset i
      e-at i l =
          side-made n h.box.places (e_of n (cell_at b) (side_at z)) made-e i l
          ∙ e-cong n (cell_at b) (b_of n C S) i (λ k m. b_at i k l m) z-at

      pub parts_in : JoinIn n M (side_at d) (side_at e)
      parts_in = record {
        places = h.box.places;
        middles = h.middles.each;
        d = λ i l. rw (d-at i l) (in-d d-in i l);
        e = λ i l. rw (e-at i l) (e-part i l);
      }

      pub image-made : vector_of n (λ i. add_i (add_i (M i) (neg_i (side_at d i))) (side_at e i))
          ≡ vector_of n (image_from n C X M F S)
      image-made = tab-cong zero_i n_max n _ _ (λ i l. sum_of refl (d-at i l) (e-at i l))
