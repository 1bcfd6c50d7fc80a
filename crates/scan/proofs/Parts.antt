-- Laws of the bytes from one place up to another.
use Prim.Native.Nat.{ℕ, zero, suc, ◌+◌, ◌-◌, ◌≤◌, ◌<◌}
use native.Mathlib.Omega.{arith}
use native.Mathlib.Numerals.{add-one}
use mathlib.Core.Path.{◌≡◌, refl, ap, ◌∙◌}
use mathlib.Core.List.{List, [], ◌∷◌, ◌++◌}
use lib.ListN.{length, take, drop, get_or, length-take, length-drop}
use lib.Seq.{take-suc, take-take, take-add, drop-cons, drop-drop, get_or-drop, get_or-take}
use Rattle.reading.specs.Places.{part}

module _ (t : List ℕ) (a e : ℕ) where
  pub part_length : a ≤ e → e ≤ length t → length (part t a e) ≡ e - a
  part_length p q = simp (length-take, length-drop) (omega arith)

  pub part_none : e ≤ a → part t a e ≡ []
  part_none p = let z : e - a ≡ 0 = omega arith in rw z

  pub part-cons : a < e → e ≤ length t → part t a e ≡ get_or t a 0 ∷ part t (a + 1) e
  part-cons p q =
      let z : e - a ≡ suc (e - (a + 1)) = omega arith in
      rw (z, drop-cons t a 0 (omega arith), add-one a)

  pub part-more : a ≤ e → e < length t → part t a (e + 1) ≡ part t a e ++ (get_or t e 0 ∷ [])
  part-more p q =
      let z : e + 1 - a ≡ suc (e - a) = omega arith in
      let f : a + (e - a) ≡ e = omega arith in
      rw z (take-suc (drop a t) (e - a) 0 (omega (arith, length-drop a t)) ∙ rw (get_or-drop, f) refl)

  pub part_at : (k : ℕ) → k < e - a → get_or (part t a e) k 0 ≡ get_or t (a + k) 0
  part_at k h = get_or-take (e - a) (drop a t) k 0 h ∙ get_or-drop a t k 0

  -- in two parts at m
  pub part-split : (m : ℕ) → a ≤ m → m ≤ e → part t a e ≡ part t a m ++ part t m e
  part-split m p q =
      let z : e - a ≡ m - a + (e - m) = omega arith in
      let w : a + (m - a) ≡ m = omega arith in
      rw z (take-add (m - a) (e - m) (drop a t) ∙ rw (drop-drop, w))

  pub part-take : (m : ℕ) → a ≤ m → m ≤ e → take (m - a) (part t a e) ≡ part t a m
  part-take m p q = take-take (m - a) (e - a) (drop a t) (omega arith)

  pub part-drop : (m : ℕ) → a ≤ m → m ≤ e → drop (m - a) (part t a e) ≡ part t m e
  part-drop m p q =
      let z : e - a ≡ m - a + (e - m) = omega arith in
      let w : a + (m - a) ≡ m = omega arith in
      rw z (go (e - m) (m - a) (drop a t) ∙ ap (take (e - m)) (drop-drop (m - a) a t ∙ rw w))
    where
      none : (n : ℕ) → [] ≡ take {A = ℕ} n []
      none zero = refl
      none (suc n) = refl

      go : (n k : ℕ) (s : List ℕ) → drop k (take (k + n) s) ≡ take n (drop k s)
      go n zero s = let z : 0 + n ≡ n = omega arith in rw z
      go n (suc k) [] = let z : suc k + n ≡ suc (k + n) = omega arith in rw z (none n)
      go n (suc k) (b ∷ s) = let z : suc k + n ≡ suc (k + n) = omega arith in rw z (go n k s)
