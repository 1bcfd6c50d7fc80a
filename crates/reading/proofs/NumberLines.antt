-- Lines of numbers: one that is read is the one that is shown, and one that is shown is read.
use Prim.Native.Nat.{ℕ, zero, suc, ◌≤◌, ◌<◌, ◌^◌}
use native.Mathlib.Omega.{arith}
use mathlib.Core.Path.{◌≡◌, refl, sym, ap, ◌∙◌}
use mathlib.Core.List.{List, [], ◌∷◌, ◌++◌}
use mathlib.Core.Bool.{Bool, true, false, cond, false≢true}
use lib.ListN.{length, take, drop, replicate, get_or}
use lib.Dec.{ltb}
use lib.IntN.{ℤ, pos, nat_abs}
use borrow.Author.Tests.{eqb-true, eq-eqb}
use Rattle.lists.specs.Loops.{tab}
use Rattle.lists.proofs.Tab.{length-tab, get_or-tab, tab-cong}
use Rattle.digits.specs.Number.{digits_max, read_number}
use Rattle.digits.specs.Show.{show_magnitude, show_signed}
use Rattle.digits.proofs.ReadBack.{number-back}
use Rattle.text.specs.Keys.{body_of}
use Rattle.text.specs.Counts.{in_count, count_of}
use Rattle.text.specs.Lists.{Numbers, places_max, read_list, joined, show_all, show_list, Below, Small}
use Rattle.digits.specs.Bytes.{line_feed}
use Rattle.text.proofs.Pieces.{Above, above-append, magnitude-above}
use Rattle.text.proofs.Keys.{body_own}
use Rattle.text.proofs.Counts.{count-was, count-size}
use Rattle.text.proofs.Lists.{list-above, list-was, list_back, list_counts}
use Rattle.text.proofs.ListLines.{no-list, list-line}
use Rattle.reading.specs.Results.{Told, refuse}
use Rattle.reading.specs.NumberLines.{placed, counted, count_line, listed, list_line, rowed, row_line}
use Rattle.reading.proofs.Told.{not-false, told-got, told-fault, told-unless}
use Rattle.std.specs.Prelude.{Ok, Err, Some, Result}
use Rattle.text.specs.declared.Uncounted.{Uncounted}

-- ---- no line of numbers holds an LF

module _ (key : List ℕ) (plain : Above line_feed key) where
  pub count-plain : (m : ℕ) → Above line_feed (key ++ show_magnitude digits_max m)
  count-plain m = above-append line_feed key _ plain (magnitude-above line_feed (omega arith) digits_max m)

  pub list-plain : (k : ℕ) (xs : List ℤ) → Above line_feed (key ++ show_all k xs)
  list-plain k xs = above-append line_feed key _ plain (list-above line_feed (omega arith) k xs)

-- ---- the first numbers of a list

-- of those that were kept
first-first : (k m n : ℕ) (xs : List ℤ) → n ≤ m → placed k n (placed m n xs) ≡ placed k n xs
first-first k m n xs h =
    tab-cong (pos 0) k n _ _ (λ i l. get_or-tab (pos 0) m n (λ j. get_or xs j (pos 0)) (pos 0) i l h)

pub first-all : (xs : List ℤ) → placed (length xs) (length xs) xs ≡ xs
unfolding tab
first-all [] = refl
first-all (x ∷ xs) = ap (λ (l : List ℤ). x ∷ l) (first-all xs)

take-zeros : (m k : ℕ) → m ≤ k → take m (replicate k (pos 0)) ≡ replicate m (pos 0)
take-zeros zero k h = refl
take-zeros (suc m) zero h = absurd (omega arith)
take-zeros (suc m) (suc k) h = ap (λ (l : List ℤ). pos 0 ∷ l) (take-zeros m k (omega arith))

-- numbers with zeros after them
first-kept : (vs : List ℤ) (m k : ℕ) → length vs ≤ m → m ≤ k
    → take m (vs ++ drop (length vs) (replicate k (pos 0))) ≡ placed m (length vs) vs
unfolding tab
first-kept [] zero k h q = refl
first-kept [] (suc m) k h q = take-zeros (suc m) k q
first-kept (v ∷ vs) zero k h q = absurd (omega arith)
first-kept (v ∷ vs) (suc m) zero h q = absurd (omega arith)
first-kept (v ∷ vs) (suc m) (suc k) h q = ap (λ (l : List ℤ). v ∷ l) (first-kept vs m k (omega arith) (omega arith))

pub below-tab : (k n : ℕ) (f : ℕ → ℤ) → ((i : ℕ) → i < n → nat_abs (f i) < 10 ^ k) → Below k (tab n n (pos 0) f)
unfolding tab Below
below-tab k zero f h = tt
below-tab k (suc n) f h = (h zero (omega arith), below-tab k n (λ i. f (suc i)) (λ i l. h (suc i) (omega arith)))

-- ---- a list that is read

-- the line of a list of n numbers, of which m places are kept
pub record ListWas (key l : List ℕ) (m n : ℕ) (row : List ℤ) : Type 0 where
  pub some : 0 < n
  pub shown : n ≤ m → key ++ show_list (placed n n row) ≡ l
  pub live : n ≤ m → placed m n row ≡ row

no-numbers : show_list [] ≡ []
unfolding show_all joined
no-numbers = refl

module _ (key l : List ℕ) (m : ℕ) (h : m ≤ places_max) where
  some_number : (vs : List ℤ) → show_list vs ≡ body_of key l → (read_list (body_of key l)).ok ≡ true → 0 < length vs
  some_number [] t e = absurd (false≢true (sym no-list ∙ ap (λ (b : List ℕ). (read_list b).ok) (sym no-numbers ∙ t)
      ∙ e))
  some_number (v ∷ vs) t e = omega arith

  list-told : (read_list (body_of key l)).ok ≡ true
      → ListWas key l m (read_list (body_of key l)).count (take m (read_list (body_of key l)).vals)
  list-told ok =
      let is = list-was (body_of key l) ok in
      let row : length is.vs ≤ m → take m (read_list (body_of key l)).vals ≡ placed m (length is.vs) is.vs =
      λ q. ap (take m) (is.vals (omega arith)) ∙ first-kept is.vs m places_max q h in
      rw is.count (record {
        some = some_number is.vs is.text ok;
        shown = λ q.
            ap (λ (x : List ℤ). key ++ show_list (placed (length is.vs) (length is.vs) x)) (row q)
            ∙ ap (λ (x : List ℤ). key ++ show_list x) (first-first _ m _ is.vs q ∙ first-all is.vs)
            ∙ ap (λ (x : List ℕ). key ++ x) is.text
            ∙ list-line key l ok;
        live = λ q. ap (placed m (length is.vs)) (row q) ∙ first-first m m _ is.vs q ∙ sym (row q);
      })

module _ {F : Type 0} (odd : F) where
  pub count-told : (out : F) (key : List ℕ) (most : ℕ) (l : List ℕ)
      → Told (λ m. (key ++ show_magnitude digits_max m ≡ l) × (m ≤ most)) (count_line odd out key most l)
  unfolding count_line counted
  count-told out key most l = go (count_of most (read_number (body_of key l))) refl
    where
      go : (c : Result ℕ Uncounted) → count_of most (read_number (body_of key l)) ≡ c
          → Told (λ m. (key ++ show_magnitude digits_max m ≡ l) × (m ≤ most)) (counted odd out c)
      go (Err Uncounted.Bad) e = told-fault odd
      go (Err Uncounted.Out) e = told-fault out
      go (Ok m) e = told-got m (count-was most key l m e, count-size most _ m e)

  module _ (key l : List ℕ) (m : ℕ) (h : m ≤ places_max) where
    pub list-line-told : Told (λ x. ListWas key l m x.count x.row) (list_line odd key m l)
    unfolding list_line listed
    list-line-told = told-unless _ odd _ (λ e. told-got _ (list-told key l m h (not-false _ e)))

    pub row-line-told : (n : ℕ) → Told (ListWas key l m n) (row_line odd key m n l)
    unfolding row_line rowed
    row-line-told n =
        told-unless _ odd _ (λ e.
        told-unless _ odd _ (λ c.
        let same = eqb-true (read_list (body_of key l)).count n (not-false _ c) in
        told-got _ (rw same at (list-told key l m h (not-false _ e)))))

  -- ---- a line that is shown

  pub count-line-back : (out : F) (key : List ℕ) (most m : ℕ) → m < 10 ^ digits_max
      → count_line odd out key most (key ++ show_magnitude digits_max m) ≡ refuse (ltb most m) out (Ok m)
  unfolding count_line counted count_of in_count show_signed
  count-line-back out key most m h =
      let e : read_number (show_magnitude digits_max m) ≡ Some (pos m) = number-back (pos m) h in
      rw (body_own key (show_magnitude digits_max m), e) (go (ltb most m))
    where
      go : (t : Bool) → counted odd out (cond t (Err Uncounted.Out) (Ok m)) ≡ refuse t out (Ok m)
      go true = refl
      go false = refl

  module _ (key : List ℕ) (m n : ℕ) (xs : List ℤ) where
    abbrev shown_list : List ℕ
    shown_list = key ++ show_list (placed n n xs)

    -- no list is empty
    pub list-line-none : n ≡ 0 → list_line odd key m shown_list ≡ Err odd
    unfolding list_line listed tab
    list-line-none e = rw (e, body_own key (show_list []), no-numbers, no-list)

    module _ (some : 0 < n) (small : Small (placed n n xs)) where
      long : length (placed n n xs) ≡ n
      long = length-tab (pos 0) n n (λ i. get_or xs i (pos 0))

      list_read : read_list (body_of key shown_list) ≡ read_list (show_list (placed n n xs))
      list_read = ap read_list (body_own key (show_list (placed n n xs)))

      list-ok : (read_list (body_of key shown_list)).ok ≡ true
      list-ok = ap (λ (a : Numbers). a.ok) list_read ∙ (list_counts (placed n n xs) (omega (arith, long)) small).0

      list_count : (read_list (body_of key shown_list)).count ≡ n
      list_count =
          ap (λ (a : Numbers). a.count) list_read ∙ (list_counts (placed n n xs) (omega (arith, long)) small).1 ∙ long

      list-row : n ≤ m → m ≤ places_max → take m (read_list (body_of key shown_list)).vals ≡ placed m n xs
      list-row few h =
          ap (λ (a : Numbers). take m a.vals) (list_read
          ∙ list_back (placed n n xs) (omega (arith, long)) small (omega (arith, long)))
          ∙ first-kept (placed n n xs) m places_max (omega (arith, long)) h
          ∙ ap (λ (k : ℕ). placed m k (placed n n xs)) long
          ∙ first-first m n n xs (omega arith)

      -- its length is told, though there be no places for it
      pub list-line-back : m ≤ places_max
          → (row : List ℤ)
          × (list_line odd key m shown_list ≡ Ok (record { count = n; row = row }))
          × (n ≤ m → row ≡ placed m n xs)
      unfolding list_line listed
      list-line-back h =
          (take m (read_list (body_of key shown_list)).vals, rw (list-ok, list_count), λ few. list-row few h)

      pub row-line-back : n ≤ m → m ≤ places_max → row_line odd key m n shown_list ≡ Ok (placed m n xs)
      unfolding row_line rowed
      row-line-back few h = rw (list-ok, list_count, eq-eqb n n refl) (ap Ok (list-row few h))
