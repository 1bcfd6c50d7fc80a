-- Laws of a written list, as a loop over its places takes them.
use Prim.Native.Nat.{ℕ, zero, suc, ◌+◌, ◌*◌, ◌≤◌, ◌<◌, ◌^◌}
use native.Mathlib.Omega.{arith}
use mathlib.Core.Path.{◌≡◌, refl, sym, ap, ◌∙◌}
use mathlib.Core.List.{List, [], ◌∷◌, ◌++◌, map, map-append, append_assoc, append-nil}
use lib.ListN.{length, take, get_or, length-append, length-map}
use lib.Seq.{take-suc}
use lib.IntN.{ℤ, pos, nat_abs}
use Rattle.lists.specs.Loops.{tab}
use Rattle.digits.specs.Bytes.{comma}
use Rattle.digits.specs.Show.{show_signed}
use Rattle.digits.proofs.Show.{number_short, number-under}
use Rattle.text.specs.Lists.{after_commas, joined, show_all, Below}
use Rattle.reading.specs.NumberLines.{placed}

pub below_at : (k : ℕ) (xs : List ℤ) (i : ℕ) → Below k xs → i < length xs → nat_abs (get_or xs i (pos 0)) < 10 ^ k
unfolding Below
below_at k [] i s h = absurd (omega arith)
below_at k (x ∷ xs) zero s h = s.0
below_at k (x ∷ xs) (suc i) s h = below_at k xs i s.1 (omega arith)

-- the first n numbers, as a slice has them
pub taken-first : (n : ℕ) (xs : List ℤ) → n ≤ length xs → take n xs ≡ placed n n xs
unfolding tab
taken-first zero xs h = refl
taken-first (suc n) [] h = absurd (omega arith)
taken-first (suc n) (x ∷ xs) h = ap (λ (l : List ℤ). x ∷ l) (taken-first n xs (omega arith))

-- one item more
pub after-snoc : (xs : List (List ℕ)) (x : List ℕ)
    → after_commas (xs ++ (x ∷ [])) ≡ (after_commas xs ++ (comma ∷ [])) ++ x
unfolding after_commas
after-snoc [] x = ap (λ (l : List ℕ). comma ∷ l) (append-nil x)
after-snoc (y ∷ ys) x =
    ap (λ (l : List ℕ). comma ∷ (y ++ l)) (after-snoc ys x)
    ∙ ap (λ (l : List ℕ). comma ∷ l) (sym (append_assoc y (after_commas ys ++ (comma ∷ [])) x)
    ∙ ap (λ (l : List ℕ). l ++ x) (sym (append_assoc y (after_commas ys) (comma ∷ []))))

module _ (k : ℕ) where
  -- the first i numbers, each after a comma
  abbrev pub first_more : ℕ → List ℤ → List ℕ
  first_more i xs = after_commas (map (show_signed k) (take i xs))

  -- one number more
  pub more-one : (xs : List ℤ) (i : ℕ) → i < length xs
      → (first_more i xs ++ (comma ∷ [])) ++ show_signed k (get_or xs i (pos 0)) ≡ first_more (suc i) xs
  more-one xs i h =
      let v = get_or xs i (pos 0) in
      sym (ap (λ (ys : List ℤ). after_commas (map (show_signed k) ys)) (take-suc xs i (pos 0) h)
      ∙ ap after_commas (map-append (show_signed k) (take i xs) (v ∷ []))
      ∙ after-snoc (map (show_signed k) (take i xs)) (show_signed k v))

  pub list-none : (xs : List ℤ) → length xs ≡ 0 → show_all k xs ≡ []
  unfolding show_all joined
  list-none [] e = refl
  list-none (x ∷ xs) e = absurd (omega (arith, e))

-- ---- how long a list is

-- each item has at most w bytes
abbrev pub AllShort : ℕ → List (List ℕ) → Type 0
AllShort w [] = Unit {0}
AllShort w (x ∷ xs) = (length x ≤ w) × AllShort w xs

-- a comma and an item
after-short : (w : ℕ) (xs : List (List ℕ)) → AllShort w xs → length (after_commas xs) ≤ (w + 1) * length xs
unfolding after_commas
after-short w [] s = omega arith
after-short w (x ∷ xs) s =
    rw (length-append x (after_commas xs)) (omega (arith, s.0, after-short w xs s.1))

pub joined-short : (w : ℕ) (xs : List (List ℕ)) → AllShort w xs → length (joined xs) ≤ (w + 1) * length xs
unfolding joined
joined-short w [] s = omega arith
joined-short w (x ∷ xs) s =
    rw (length-append x (after_commas xs)) (omega (arith, s.0, after-short w xs s.1))

pub tab-short : (w m : ℕ) (f : ℕ → List ℕ) → ((i : ℕ) → i < m → length (f i) ≤ w) → AllShort w (tab m m [] f)
unfolding tab
tab-short w zero f h = tt
tab-short w (suc m) f h = (h zero (omega arith), tab-short w m (λ i. f (suc i)) (λ i l. h (suc i) (omega arith)))

module _ (k : ℕ) where
  shown-long : (xs : List ℤ) → length (map (show_signed k) xs) ≡ length xs
  shown-long xs = length-map xs (show_signed k)

  -- a comma, a minus and k digits for each number
  pub list-short : (xs : List ℤ) → length (show_all k xs) ≤ (k + 2) * length xs
  unfolding show_all
  list-short xs =
      rw (← shown-long xs) (omega (arith, joined-short (k + 1) (map (show_signed k) xs) (go xs)))
    where
      go : (xs : List ℤ) → AllShort (k + 1) (map (show_signed k) xs)
      go [] = tt
      go (v ∷ vs) = (number_short k v, go vs)

  -- or as many digits as the greatest has
  pub list-under : (j : ℕ) (xs : List ℤ) → Below (suc j) xs → length (show_all k xs) ≤ (suc j + 2) * length xs
  unfolding show_all Below
  list-under j xs s =
      rw (← shown-long xs) (omega (arith, joined-short (suc j + 1) (map (show_signed k) xs) (go xs s)))
    where
      go : (xs : List ℤ) → Below (suc j) xs → AllShort (suc j + 1) (map (show_signed k) xs)
      go [] s = tt
      go (v ∷ vs) s = (number-under k j v s.0, go vs s.1)
