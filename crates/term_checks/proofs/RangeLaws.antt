-- What the tests of sizes and of order say of each place, and the other way round.
use mathlib.Core.Path.{◌≡◌, refl}
use mathlib.Core.Bool.{Bool, true, false, ◌&&◌}
use mathlib.Core.List.{List}
use Prim.Native.Nat.{ℕ, zero, suc, ◌≤◌, ◌<◌}
use native.Mathlib.Omega.{arith}
use lib.Dec.{leb}
use lib.ListN.{get_or}
use borrow.Author.Tests.{leb-true, le-leb}
use lib.IntN.{ℤ, pos, neg_ℤ}
use lib.Signed.{◌≤ℤ◌, le_z}
use Rattle.integers.specs.Ranges.{Within}
use Rattle.integers.proofs.Ranges.{within, within-lo, within-hi}
use Rattle.integers.proofs.Order.{le_z-true, le-le_z}
use Rattle.lists.specs.Loops.{all_b}
use Rattle.lists.proofs.All.{all-each}
use Rattle.term_checks.specs.Ranges.{one_to, is_within, all_within, all_ordered}

-- both of two tests
pub and_left : (a b : Bool) → a && b ≡ true → a ≡ true
and_left true b e = refl
and_left false b e = e

pub and_right : (a b : Bool) → a && b ≡ true → b ≡ true
and_right true b e = e
and_right false true e = refl
and_right false false e = e

-- from 1 to most
pub one-to : (most m : ℕ) → one_to most m ≡ true → (1 ≤ m) × (m ≤ most)
unfolding one_to
one-to most m e =
    (leb-true 1 m (and_left (leb 1 m) (leb m most) e), leb-true m most (and_right (leb 1 m) (leb m most) e))

pub to_one : (most m : ℕ) → 1 ≤ m → m ≤ most → one_to most m ≡ true
unfolding one_to
to_one most m some few = rw (le-leb 1 m some, le-leb m most few)

-- a test of every place, from each
pub each_all : (p : ℕ → Bool) (n : ℕ) → ((i : ℕ) → i < n → p i ≡ true) → all_b n p ≡ true
unfolding all_b
each_all p zero h = refl
each_all p (suc n) h = rw (each_all p n (λ i l. h i (omega arith)), h n (omega arith))

pub is_within_lem : (z : ℤ) (B : ℕ) → is_within z (pos B) ≡ true → Within z B
unfolding is_within
is_within_lem z B e = within z B (le_z-true _ _ (and_left (le_z (neg_ℤ (pos B)) z) _ e))
    (le_z-true _ _ (and_right (le_z (neg_ℤ (pos B)) z) _ e))

pub within-is : {z : ℤ} {B : ℕ} → Within z B → is_within z (pos B) ≡ true
unfolding is_within
within-is h = rw (le-le_z _ _ (within-lo h), le-le_z _ _ (within-hi h))

module _ (xs : List ℤ) (n B : ℕ) where
  pub all-within : all_within xs n (pos B) ≡ true → (i : ℕ) → i < n → Within (get_or xs i (pos 0)) B
  unfolding all_within
  all-within e i l = is_within_lem _ B (all-each _ n i l e)

  pub within_all : ((i : ℕ) → i < n → Within (get_or xs i (pos 0)) B) → all_within xs n (pos B) ≡ true
  unfolding all_within
  within_all h = each_all _ n (λ i l. within-is (h i l))

module _ (lo hi : List ℤ) (n : ℕ) where
  pub all-ordered : all_ordered lo hi n ≡ true → (i : ℕ) → i < n → get_or lo i (pos 0) ≤ℤ get_or hi i (pos 0)
  unfolding all_ordered
  all-ordered e i l = le_z-true _ _ (all-each _ n i l e)

  pub ordered-all : ((i : ℕ) → i < n → get_or lo i (pos 0) ≤ℤ get_or hi i (pos 0)) → all_ordered lo hi n ≡ true
  unfolding all_ordered
  ordered-all h = each_all _ n (λ i l. le-le_z _ _ (h i l))
