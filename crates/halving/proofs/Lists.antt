-- Boxes listed one after the other.
use Prim.Native.Nat.{ℕ, zero, suc, ◌+◌, ◌-◌, ◌*◌, ◌^◌, ◌≤◌}
use native.Mathlib.Nat.{add-zero, pow-suc}
use native.Mathlib.Numerals.{sub-one}
use native.Mathlib.Omega.{arith}
use mathlib.Core.Path.{◌≡◌, refl, sym, ap, ◌∙◌}
use mathlib.Core.Bool.{Bool}
use mathlib.Core.List.{List, [], ◌∷◌, ◌++◌, append_assoc, append-nil}
use lib.IntN.{ℤ, pos}
use lib.ListN.{length, set, length-append}
use lib.Pow.{pow_pos}
use lib.Seq.{length-sets}
use Rattle.sizes.specs.Sizes.{n_max}
use Rattle.lists.proofs.Sets.{sets-append}
use Rattle.lists.proofs.Tab.{length-tab}
use Rattle.intervals.specs.Places.{side_at}
use Rattle.intervals.specs.declared.Interval.{Interval}
use Rattle.jobs.specs.declared.Ends.{Ends}
use Rattle.step.specs.Values.{low_ends, high_ends, ends_of}
use Rattle.halving.specs.Boxes.{Listed, listed_as}
use Rattle.halving.specs.Lists.{listed_places, unique_number, numbers_in, numbers_of, Put, Lists}
use Rattle.halving.proofs.Put.{put-append, put_one}

module _ (n : ℕ) where
  pub box-numbers : (b : Listed) → length (numbers_in n b) ≡ listed_places
  unfolding numbers_in
  box-numbers b =
      ap suc (length-append (low_ends n b.sides) (high_ends n b.sides) ∙ rw (low, high))
    where
      low : length (low_ends n b.sides) ≡ n_max
      low = length-tab (pos 0) n_max n _

      high : length (high_ends n b.sides) ≡ n_max
      high = length-tab (pos 0) n_max n _

  pub numbers-length : (bs : List Listed) → length (numbers_of n bs) ≡ listed_places * length bs
  unfolding numbers_of
  numbers-length [] = refl
  numbers-length (b ∷ bs) =
      length-append (numbers_in n b) (numbers_of n bs) ∙ omega (arith, box-numbers b, numbers-length bs)

  pub numbers-append : (a b : List Listed) → numbers_of n (a ++ b) ≡ numbers_of n a ++ numbers_of n b
  unfolding numbers_of
  numbers-append [] b = refl
  numbers-append (x ∷ a) b =
      ap (λ (l : List ℤ). numbers_in n x ++ l) (numbers-append a b)
      ∙ sym (append_assoc (numbers_in n x) (numbers_of n a) (numbers_of n b))

  pub lists-none : (old : List ℤ) (at : ℕ) {bs : List Listed} → bs ≡ [] → Lists n old old at at bs
  unfolding numbers_of
  lists-none old at e = rw e (record { next = sym (add-zero at); list = refl })

  pub lists-append : {x y z : List ℤ} {at r s : ℕ} {a b c : List Listed} → c ≡ a ++ b
      → Lists n x y at r a → Lists n y z r s b → Lists n x z at s c
  lists-append {x} {y} {z} {at} {r} {s} {a} {b} e p q = rw e (record {
    next = rw (length-append) (omega (arith, p.next, q.next));
    list = q.list ∙ rw (p.list, place)
        (sym (rw (numbers-append a b) (sets-append x (listed_places * at) (numbers_of n a) (numbers_of n b))));
  })
    where
      place : listed_places * r ≡ listed_places * at + length (numbers_of n a)
      place = omega (arith, p.next, numbers-length a)

  pub lists_length : {x y : List ℤ} {at r : ℕ} {a : List Listed} → Lists n x y at r a → length y ≡ length x
  lists_length {x} {y} {at} {r} {a} p = rw p.list (length-sets x (listed_places * at) (numbers_of n a))

  -- one box
  pub lists-one : {x y : List ℤ} {at r : ℕ} (b : Listed) → Put x y (listed_places * at) r (numbers_in n b)
      → Lists n x y at (at + 1) (b ∷ [])
  unfolding numbers_of
  lists-one b p = record { next = refl; list = p.list ∙ rw (append-nil (numbers_in n b)) }

  pub low-next : {x y : List ℤ} {at r : ℕ} {e : Ends} (sides : List Interval) → e ≡ ends_of n sides
      → Put x y at r e.lo → r ≡ at + n_max
  low-next {at = at} sides e p =
      (rw e at p).next ∙ ap (λ (k : ℕ). at + k) (length-tab (pos 0) n_max n (λ k. (side_at sides k).lo))

  -- its word, its low ends and its high ends
  pub box-put : {at r q : ℕ} {x y z : List ℤ} {word : ℤ} {e : Ends} (unique : Bool) (sides : List Interval)
      → word ≡ unique_number unique → e ≡ ends_of n sides
      → Put (set x (listed_places * at) word) y (listed_places * at + 1) r e.lo → Put y z r q e.hi
      → Lists n x z at (at + 1) (listed_as unique sides)
  unfolding numbers_in
  box-put {x = x} unique sides w e p q =
      lists-one (record { unique = unique; sides = sides })
      (put-append (put_one x _ _) (put-append (rw (w, e) at p) (rw e at q)))

-- ---- the room of two halves
pub one-room : (at depth room : ℕ) → listed_places * (at + 2 ^ depth) ≤ room → listed_places * (at + 1) ≤ room
one-room at depth room h = omega (arith, pow_pos depth)

two-halves : (depth : ℕ) → 1 ≤ depth → 2 ^ depth ≡ 2 ^ (depth - 1) + 2 ^ (depth - 1)
two-halves zero l = absurd (omega arith)
two-halves (suc depth) l = let e = pow-suc 2 depth in rw sub-one (omega arith)

pub low-room : (at depth room : ℕ) → 1 ≤ depth → listed_places * (at + 2 ^ depth) ≤ room
    → listed_places * (at + 2 ^ (depth - 1)) ≤ room
low-room at depth room l h = omega (arith, two-halves depth l)

pub high-room : (at next depth room : ℕ) → 1 ≤ depth → next ≤ at + 2 ^ (depth - 1)
    → listed_places * (at + 2 ^ depth) ≤ room → listed_places * (next + 2 ^ (depth - 1)) ≤ room
high-room at next depth room l few h = omega (arith, two-halves depth l)
