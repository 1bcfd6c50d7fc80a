-- What the checks of lines of numbers say of their values, and the other way round.
use Prim.Native.Nat.{ℕ, ◌≤◌, ◌<◌, ◌^◌}
use native.Mathlib.Omega.{arith}
use mathlib.Core.Path.{◌≡◌, refl, ap, ap₂}
use mathlib.Core.List.{List, [], ◌∷◌, ◌++◌}
use mathlib.Core.Bool.{true}
use lib.ListN.{get_or}
use lib.IntN.{ℤ, pos, nat_abs}
use borrow.Author.Tests.{le-leb, lt-leb, leb-true}
use Rattle.sizes.specs.Sizes.{n_max, number_max, visit_max, steps_max, end_max, entry_max}
use lib.Signed.{le_z}
use Rattle.lists.proofs.All.{all-cong}
use Rattle.lists.proofs.Tab.{get_or-tab}
use Rattle.checks.specs.Accepted.{AllWithin}
use Rattle.term_checks.specs.Ranges.{is_within, all_within, all_ordered}
use Rattle.faults.specs.declared.Fault.{Fault}
use Rattle.reading.specs.NumberLines.{placed}
use Rattle.reading.proofs.NumberLines.{below-tab}
use Rattle.digits.specs.Number.{digits_max}
use Rattle.text.specs.Lists.{Below, Small}
use Rattle.term_checks.proofs.RangeLaws.{is_within_lem, all-within}
use Rattle.faults.specs.Checks.{bad_unless, first_of}
use Rattle.checks.specs.Checks.{number_check, steps_check, low_check, high_check, row_check, sided_check}
use Rattle.checks.specs.CheckResult.{visit_check, count_check, counted_check}
use Rattle.faults.proofs.Laws.{fine-first, fine-next, unless-fine}
use Rattle.checks.proofs.CheckLaws.{count-fine}
use Rattle.std.specs.Prelude.{Ok, Err}

-- ---- how many numbers

pub count_none : count_check 0 ≡ Err Fault.Spelling
unfolding count_check first_of bad_unless
count_none = refl

pub count-over : (n : ℕ) → n_max < n → count_check n ≡ Err Fault.Unknowns
unfolding count_check first_of bad_unless
count-over n h = rw (le-leb 1 n (omega arith), lt-leb n n_max h)

pub counted-fine : (n : ℕ) (lo : List ℤ) → counted_check n lo ≡ Ok tt
    → ((0 < n) × (n ≤ n_max)) × (low_check n lo ≡ Ok tt)
unfolding counted_check
counted-fine n lo e = (count-fine n (fine-first _ _ e), fine-next _ _ e)

-- ---- the live places alone are looked at

module _ (m n : ℕ) (few : n ≤ m) where
  pub live_at : (xs : List ℤ) (i : ℕ) → i < n → get_or (placed m n xs) i (pos 0) ≡ get_or xs i (pos 0)
  live_at xs i l = get_or-tab (pos 0) m n (λ j. get_or xs j (pos 0)) (pos 0) i l few

  pub within-live : (xs : List ℤ) (B : ℤ) → all_within (placed m n xs) n B ≡ all_within xs n B
  unfolding all_within
  within-live xs B = all-cong n _ _ (λ i l. ap (λ (z : ℤ). is_within z B) (live_at xs i l))

  ordered-live : (lo hi : List ℤ) → all_ordered (placed m n lo) (placed m n hi) n ≡ all_ordered lo hi n
  unfolding all_ordered
  ordered-live lo hi = all-cong n _ _ (λ i l. ap₂ le_z (live_at lo i l) (live_at hi i l))

  pub low-live : (lo : List ℤ) → low_check n (placed m n lo) ≡ low_check n lo
  unfolding low_check
  low-live lo = rw (within-live lo (pos end_max))

  pub high-live : (lo hi : List ℤ) → high_check n (placed m n lo) (placed m n hi) ≡ high_check n lo hi
  unfolding high_check
  high-live lo hi = rw (within-live hi (pos end_max), ordered-live lo hi)

  pub row-live : (row : List ℤ) → row_check n (placed m n row) ≡ row_check n row
  unfolding row_check
  row-live row = rw (within-live row (pos entry_max))

  pub sided-live : (row : List ℤ) (right : ℤ) → sided_check n (placed m n row) right ≡ sided_check n row right
  unfolding sided_check
  sided-live row right = rw (row-live row)

-- ---- numbers within their size can be spelled

module _ (n : ℕ) (xs : List ℤ) where
  pub within-below : (k B : ℕ) → B < 10 ^ k → AllWithin xs n B → Below k (placed n n xs)
  within-below k B h w = below-tab k n (λ i. get_or xs i (pos 0)) (λ i l. omega (arith, (w i l).abs))

  tested-small : (B : ℕ) → B < 10 ^ digits_max → all_within xs n (pos B) ≡ true → Small (placed n n xs)
  tested-small B h e = within-below digits_max B h (all-within xs n B e)

  pub low_small : low_check n xs ≡ Ok tt → Small (placed n n xs)
  unfolding low_check
  low_small e = tested-small end_max (omega arith) (unless-fine _ _ e)

  pub high_small : (lo : List ℤ) → high_check n lo xs ≡ Ok tt → Small (placed n n xs)
  unfolding high_check
  high_small lo e = tested-small end_max (omega arith) (unless-fine _ _ (fine-first _ _ e))

  pub row_small : row_check n xs ≡ Ok tt → Small (placed n n xs)
  unfolding row_check
  row_small e = tested-small entry_max (omega arith) (unless-fine _ _ e)

pub below-snoc : (k : ℕ) (xs : List ℤ) (v : ℤ) → Below k xs → nat_abs v < 10 ^ k → Below k (xs ++ (v ∷ []))
unfolding Below
below-snoc k [] v s h = (h, tt)
below-snoc k (x ∷ xs) v s h = (s.0, below-snoc k xs v s.1 h)

pub sided-small : (n : ℕ) (row : List ℤ) (right : ℤ) → sided_check n row right ≡ Ok tt
    → Small (placed n n row ++ (right ∷ []))
unfolding sided_check
sided-small n row right e =
    below-snoc digits_max (placed n n row) right (row_small n row (fine-first _ _ e))
    (omega (arith, (is_within_lem right entry_max (unless-fine _ _ (fine-next _ _ e))).abs))

pub number_spelled : (m : ℕ) → number_check m ≡ Ok tt → m < 10 ^ digits_max
unfolding number_check
number_spelled m e = let h = leb-true m number_max (unless-fine _ _ e) in omega arith

pub visit-spelled : (m : ℕ) → visit_check m ≡ Ok tt → m < 10 ^ digits_max
unfolding visit_check
visit-spelled m e = let h = leb-true m visit_max (unless-fine _ _ e) in omega arith

pub steps-spelled : (m : ℕ) → steps_check m ≡ Ok tt → m < 10 ^ digits_max
unfolding steps_check
steps-spelled m e = let h = leb-true m steps_max (unless-fine _ _ e) in omega arith
