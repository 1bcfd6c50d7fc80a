-- A list whose places from n on are filled with d is its first n elements, and d at the others.
use mathlib.Core.Path.{◌≡◌, refl, ap}
use mathlib.Core.List.{List, [], ◌∷◌, ◌++◌}
use Prim.Native.Nat.{ℕ, zero, suc, ◌-◌, ◌≤◌}
use native.Mathlib.Nat.{not-suc-le-zero, le_of_suc-le-suc}
use native.Mathlib.Omega.{arith}
use lib.ListN.{length, get_or, take, drop, replicate}
use borrow.Rule.Slice.PartMut.{put_mid}
use Rattle.std.proofs.Common.{append-nil}
use Rattle.std.proofs.lemmas.List.{length-drop, length-take-le, drop_all}
use Rattle.lists.specs.Loops.{tab}

module _ {A : Type 0} (d e : A) where
  front : (m n : ℕ) (s : List A) → length s ≡ m → n ≤ m
      → take n s ++ replicate (m - n) d ≡ tab m n d (λ k. get_or s k e)
  unfolding tab
  front zero zero s p h = refl
  front zero (suc n) s p h = absurd (not-suc-le-zero h)
  front (suc m) zero s p h = let l : suc m - 0 ≡ suc m = omega arith in rw l refl
  front (suc m) (suc n) [] p h = cc
  front (suc m) (suc n) (x ∷ s) p h =
      let l : suc m - suc n ≡ m - n = omega arith in
      let q : length s ≡ m = omega (arith, p) in
      rw l (ap (λ (t : List A). x ∷ t) (front m n s q (le_of_suc-le-suc h)))

  pub wiped : (m n : ℕ) (s t : List A) → length s ≡ m → n ≤ m → t ≡ replicate (length (take (m - n) (drop n s))) d
      → put_mid n (m - n) s t ≡ tab m n d (λ k. get_or s k e)
  wiped m n s t p h q =
      let room : length (take (m - n) (drop n s)) ≡ m - n =
      length-take-le (m - n) (drop n s) (omega (arith, length-drop n s)) in
      let behind : drop (m - n) (drop n s) ≡ [] = drop_all (m - n) (drop n s) (omega (arith, length-drop n s)) in
      rw (behind, append-nil, q, room) (front m n s p h)
