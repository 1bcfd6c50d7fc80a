-- The place that is found is that of the widest edge.
use mathlib.Core.Path.{◌≡◌, refl, sym}
use mathlib.Core.Bool.{Bool, true, false}
use mathlib.Core.List.{List}
use mathlib.Core.Logic.{◌⊎◌, inl, inr, ⊎_elim}
use Prim.Native.Nat.{ℕ, zero, suc, ◌+◌, ◌≤◌, ◌<◌}
use native.Mathlib.Numerals.{add-one}
use native.Mathlib.Omega.{arith}
use lib.IntN.{ℤ}
use lib.Signed.{lt_z, ◌≤ℤ◌, ◌<ℤ◌}
use borrow.Author.Tests.{eqb-true, eqb-false}
use lib.Dec.{eqb}
use Rattle.sizes.specs.Sizes.{end_max}
use Rattle.integers.proofs.Order.{lt_z-true, lt_z-false}
use Rattle.integers.proofs.Parts.{zorder}
use Rattle.lists.specs.Loops.{carry}
use Rattle.intervals.specs.Places.{side_at}
use Rattle.intervals.specs.Ranges.{InI}
use Rattle.intervals.specs.declared.Interval.{Interval}
use Rattle.slopes.specs.Ranges.{BoxIn}
use Rattle.edges.specs.Edges.{width_i, wider_of, widest_of, Widest}

-- the same number or another
pub same_or : (i k : ℕ) → (i ≡ k) ⊎ (i ≡ k → ⊥)
same_or i k = by (eqb i k) refl
  where
    by : (b : Bool) → eqb i k ≡ b → (i ≡ k) ⊎ (i ≡ k → ⊥)
    by true e = inl (eqb-true i k e)
    by false e = inr (eqb-false i k e)

module _ (x : List Interval) where
  abbrev w : ℕ → ℤ
  w k = width_i (side_at x k)

  pub wider-yes : (i k : ℕ) → lt_z (w k) (w i) ≡ true → i ≡ wider_of x i k
  unfolding wider_of
  wider-yes i k e = rw e

  pub wider-no : (i k : ℕ) → lt_z (w k) (w i) ≡ false → k ≡ wider_of x i k
  unfolding wider_of
  wider-no i k e = rw e

  wider : (i k : ℕ) → ((wider_of x i k ≡ i) × (w k <ℤ w i)) ⊎ ((wider_of x i k ≡ k) × (w i ≤ℤ w k))
  wider i k = by (lt_z (w k) (w i)) refl
    where
      by : (b : Bool) → lt_z (w k) (w i) ≡ b
          → ((wider_of x i k ≡ i) × (w k <ℤ w i)) ⊎ ((wider_of x i k ≡ k) × (w i ≤ℤ w k))
      by true e = inl (sym (wider-yes i k e), lt_z-true _ _ e)
      by false e = inr (sym (wider-no i k e), lt_z-false _ _ e)

  -- one edge more
  grown : (n k : ℕ) → Widest n x k → Widest (suc n) x (wider_of x n k)
  grown n k h = ⊎_elim later kept (wider n k)
    where
      later : (wider_of x n k ≡ n) × (w k <ℤ w n) → Widest (suc n) x (wider_of x n k)
      later p = rw p.0 (record {
        live = omega arith;
        most = λ i l.
            ⊎_elim (λ e. rw e (omega zorder)) (λ e. omega (zorder, h.most i (omega arith), p.1)) (same_or i n);
        lowest = λ i l. omega (zorder, h.most i l, p.1);
      })

      kept : (wider_of x n k ≡ k) × (w n ≤ℤ w k) → Widest (suc n) x (wider_of x n k)
      kept p = rw p.0 (record {
        live = omega (arith, h.live);
        most = λ i l. ⊎_elim (λ e. rw e p.1) (λ e. h.most i (omega arith)) (same_or i n);
        lowest = h.lowest;
      })

  first : Widest 1 x (wider_of x 0 0)
  first = ⊎_elim (λ p. rw p.0 alone) (λ p. rw p.0 alone) (wider 0 0)
    where
      alone : Widest 1 x 0
      alone = record {
        live = omega arith;
        most = λ i l. let e : i ≡ 0 = omega arith in rw e (omega zorder);
        lowest = λ i l. absurd (omega arith);
      }

  widest-is : (n : ℕ) → Widest (suc n) x (widest_of (suc n) x)
  unfolding widest_of carry
  widest-is zero = first
  widest-is (suc n) = grown (suc n) _ (widest-is n)

  pub widest-found : (n : ℕ) → 1 ≤ n → Widest n x (widest_of n x)
  widest-found zero l = absurd (omega arith)
  widest-found (suc n) l = widest-is n

  pub found-live : {k : ℕ} (n : ℕ) → 1 ≤ n → k ≡ widest_of n x → k < n
  found-live n l e = rw e (widest-found n l).live

  -- and its edge is in range
  pub widest-in : (n : ℕ) → 1 ≤ n → BoxIn n (side_at x) → InI end_max (side_at x (widest_of n x))
  widest-in n l box = box.each (widest_of n x) (widest-found n l).live

  -- a place so found is one of those looked at
  pub wider_le : (i k : ℕ) → k ≤ i → wider_of x i k ≤ i
  wider_le i k l = ⊎_elim (λ p. rw p.0 (omega arith)) (λ p. rw p.0 l) (wider i k)

  -- as the loop goes, from no edge on
  pub widest-none : 0 ≡ widest_of 0 x
  unfolding widest_of carry
  widest-none = refl

  pub widest-more : (n : ℕ) {k r : ℕ} → k ≡ widest_of n x → r ≡ wider_of x n k → r ≡ widest_of (n + 1) x
  unfolding widest_of carry
  widest-more n e made = rw (add-one n, ← e) made
