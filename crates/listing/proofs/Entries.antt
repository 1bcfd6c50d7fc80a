-- The boxes that stand in a list of numbers, one after the other, read back.
use Prim.Native.Nat.{ℕ, zero, suc, ◌+◌, ◌*◌, ◌≤◌, ◌<◌}
use native.Mathlib.Nat.{add-zero}
use native.Mathlib.Omega.{arith}
use mathlib.Core.Path.{◌≡◌, refl, sym, ap, ap₂, ◌∙◌}
use mathlib.Core.Bool.{Bool, true, false}
use mathlib.Core.List.{List, [], ◌∷◌, ◌++◌, append_assoc, append-nil}
use mathlib.Core.Logic.{inl, inr}
use lib.IntN.{ℤ, pos}
use lib.ListN.{length, take, drop, get_or}
use lib.Seq.{take-suc, take-append-le, drop-append_seam, drop-append-add, drop-drop, get_or-drop}
use Rattle.sizes.specs.Sizes.{n_max}
use Rattle.integers.specs.Equal.{eq_ℤ}
use Rattle.lists.proofs.Tab.{length-tab}
use Rattle.step.specs.Values.{low_ends, high_ends}
use Rattle.halving.specs.Boxes.{Listed, Among}
use Rattle.halving.specs.Lists.{listed_places, unique_number, numbers_in, numbers_of}
use Rattle.halving.proofs.Lists.{box-numbers}
use Rattle.listing.specs.Lines.{unique_in, low_in, high_in, entry_lines, first_lines}
use Rattle.listing.specs.Listing.{listed_lines, each_lines}

none : Listed
none = record { unique = false; sides = [] }

-- box i
pub box_at : List Listed → ℕ → Listed
box_at bs i = get_or bs i none

pub box-among : (bs : List Listed) (i : ℕ) → i < length bs → Among (box_at bs i) bs
unfolding Among box_at
box-among [] i l = absurd (omega arith)
box-among (b ∷ bs) zero l = inl refl
box-among (b ∷ bs) (suc i) l = inr (box-among bs i (omega arith))

unique-back : (b : Bool) → eq_ℤ (unique_number b) (pos 1) ≡ b
unique-back true = refl
unique-back false = refl

module _ (n : ℕ) (rest : List ℤ) where
  behind : List Listed → ℕ → List ℤ
  behind bs i = numbers_of n (drop (suc i) bs) ++ rest

  -- where it begins
  there : (bs : List Listed) (i : ℕ) → i < length bs
      → drop (listed_places * i) (numbers_of n bs ++ rest) ≡ numbers_in n (box_at bs i) ++ behind bs i
  unfolding numbers_of box_at behind
  there [] i l = absurd (omega arith)
  there (b ∷ bs) zero l = append_assoc (numbers_in n b) (numbers_of n bs) rest
  there (b ∷ bs) (suc i) l =
      let e : listed_places * suc i ≡ length (numbers_in n b) + listed_places * i = omega (arith, box-numbers n b) in
      rw (e, append_assoc (numbers_in n b) (numbers_of n bs) rest)
      (drop-append-add (numbers_in n b) (numbers_of n bs ++ rest) (listed_places * i) ∙ there bs i (omega arith))

  module _ (bs : List Listed) (i : ℕ) (l : i < length bs) where
    abbrev list : List ℤ
    list = numbers_of n bs ++ rest

    abbrev b : Listed
    b = box_at bs i

    low-size : length (low_ends n b.sides) ≡ n_max
    low-size = length-tab (pos 0) n_max n _

    high-size : length (high_ends n b.sides) ≡ n_max
    high-size = length-tab (pos 0) n_max n _

    -- behind its word
    ends : drop (listed_places * i + 1) list ≡ low_ends n b.sides ++ (high_ends n b.sides ++ behind bs i)
    unfolding numbers_in
    ends =
        sym (drop-drop 1 (listed_places * i) list) ∙ ap (drop 1) (there bs i l)
        ∙ append_assoc (low_ends n b.sides) (high_ends n b.sides) (behind bs i)

    highs : drop (listed_places * i + 1 + n_max) list ≡ high_ends n b.sides ++ behind bs i
    highs =
        sym (drop-drop n_max (listed_places * i + 1) list) ∙ ap (drop n_max) ends
        ∙ rw low-size at (drop-append_seam (low_ends n b.sides) (high_ends n b.sides ++ behind bs i))

    pub unique-at : unique_in list i ≡ b.unique
    unfolding numbers_in
    unique-at =
        let word = sym (rw (add-zero (listed_places * i)) at (get_or-drop (listed_places * i) list 0 (pos 0))) in
        ap (λ (v : ℤ). eq_ℤ v (pos 1)) (word ∙ ap (λ (xs : List ℤ). get_or xs 0 (pos 0)) (there bs i l))
        ∙ unique-back b.unique

    module _ (few : n ≤ n_max) where
      pub low-at : low_in n list i ≡ take n (low_ends n b.sides)
      low-at = ap (take n) ends ∙ take-append-le n (low_ends n b.sides) _ (omega (arith, low-size))

      pub high-at : high_in n list i ≡ take n (high_ends n b.sides)
      high-at = ap (take n) highs ∙ take-append-le n (high_ends n b.sides) _ (omega (arith, high-size))

      entry-at : entry_lines n list i ≡ listed_lines n b
      unfolding entry_lines
      entry-at = rw (unique-at, low-at, high-at) refl

  each_append : (a b : List Listed) → each_lines n (a ++ b) ≡ each_lines n a ++ each_lines n b
  unfolding each_lines
  each_append [] b = refl
  each_append (x ∷ a) b =
      ap (λ (t : List ℕ). listed_lines n x ++ t) (each_append a b)
      ∙ sym (append_assoc (listed_lines n x) (each_lines n a) (each_lines n b))

  one_each : (b : Listed) → each_lines n (b ∷ []) ≡ listed_lines n b
  unfolding each_lines
  one_each b = append-nil (listed_lines n b)

  -- the lines of the first k boxes
  pub first-lines : (bs : List Listed) (few : n ≤ n_max) (k : ℕ) → k ≤ length bs
      → first_lines n (numbers_of n bs ++ rest) k ≡ each_lines n (take k bs)
  unfolding first_lines each_lines box_at
  first-lines bs few zero l = refl
  first-lines bs few (suc k) l =
      ap₂ (λ (s t : List ℕ). s ++ t) (first-lines bs few k (omega arith)) (entry-at bs k (omega arith) few)
      ∙ rw (take-suc bs k none (omega arith), each_append (take k bs) (box_at bs k ∷ []), one_each (box_at bs k)) refl
