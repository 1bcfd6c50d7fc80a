-- Each verdict of a step comes exactly where document 01 says, of any box X and K.
use mathlib.Core.Path.{◌≡◌, refl}
use mathlib.Core.Bool.{Bool, true, false}
use mathlib.Core.List.{List}
use mathlib.Core.Logic.{◌↔◌, inl, inr, ⊎_elim}
use Prim.Native.Nat.{ℕ, zero, suc, ◌≤◌, ◌<◌}
use native.Mathlib.Omega.{arith}
use lib.IntN.{ℤ}
use lib.Signed.{◌≤ℤ◌, ◌<ℤ◌, le_z, lt_z}
use Rattle.integers.specs.Equal.{eq_ℤ}
use Rattle.integers.specs.Least.{min_ℤ, max_ℤ}
use Rattle.integers.proofs.Parts.{zorder}
use Rattle.integers.proofs.Equal.{eq_ℤ-refl, eq_ℤ-true}
use Rattle.integers.proofs.Least.{min-l, min-r, min-both, max-l, max-r, max-both}
use Rattle.integers.proofs.Order.{lt_z-true, lt_z-false, le_z-false, le-le_z, lt-le_z}
use Rattle.lists.specs.Loops.{both, all_b}
use Rattle.lists.proofs.All.{all-each, all-stop, both-fst, both-snd}
use Rattle.term_checks.proofs.RangeLaws.{each_all}
use Rattle.intervals.specs.Interval.{meets_i, inside_i, cut_i, same_i}
use Rattle.intervals.specs.Places.{side_at}
use Rattle.intervals.specs.declared.Interval.{Interval}
use Rattle.step.specs.declared.Move.{Move}
use Rattle.step.specs.Decide.{all_meet, all_inside, cut_same, decide_of}
use Rattle.step.specs.Meanings.{Apart, Strict, Covered, Empty, Strictly, Unchanged}
use Rattle.step.proofs.Decisions.{zero_one, Decided, none, unique, stalled, next, decided}

-- ---- the tests of one coordinate
lt-lt_z : (a b : ℤ) → a <ℤ b → lt_z a b ≡ true
lt-lt_z a b h = by (lt_z a b) refl
  where
    no : b ≤ℤ a → ⊥
    no g = omega zorder

    by : (t : Bool) → lt_z a b ≡ t → t ≡ true
    by true e = refl
    by false e = absurd (no (lt_z-false a b e))

le-lt_z : (a b : ℤ) → b ≤ℤ a → lt_z a b ≡ false
le-lt_z a b h = by (lt_z a b) refl
  where
    no : a <ℤ b → ⊥
    no g = omega zorder

    by : (t : Bool) → lt_z a b ≡ t → t ≡ false
    by true e = absurd (no (lt_z-true a b e))
    by false e = refl

module _ (x k : Interval) where
  apart-meets : Apart x k → meets_i x k ≡ false
  unfolding meets_i
  apart-meets =
      ⊎_elim (λ h. rw (lt-le_z x.lo k.hi (omega (zorder, h))) (no (le_z k.lo x.hi)))
      (λ h. rw (lt-le_z k.lo x.hi (omega (zorder, h))) refl)
    where
      no : (t : Bool) → both t false ≡ false
      no true = refl
      no false = refl

  meets-apart : meets_i x k ≡ false → Apart x k
  unfolding meets_i
  meets-apart = by (le_z k.lo x.hi) refl
    where
      by : (t : Bool) → le_z k.lo x.hi ≡ t → both t (le_z x.lo k.hi) ≡ false → Apart x k
      by true e m = inl (le_z-false x.lo k.hi m)
      by false e m = inr (le_z-false k.lo x.hi e)

  strictly-inside : Strict x k → inside_i x k ≡ true
  unfolding inside_i
  strictly-inside h =
      rw (lt-lt_z x.lo k.lo (omega (zorder, h.0)), lt-lt_z k.hi x.hi (omega (zorder, h.1))) refl

  strictly-meets : k.lo ≤ℤ k.hi → Strict x k → meets_i x k ≡ true
  unfolding meets_i
  strictly-meets o h =
      rw (le-le_z k.lo x.hi (omega (zorder, h.1)), le-le_z x.lo k.hi (omega (zorder, h.0))) refl

  -- x lies in k exactly where the cut leaves it as it is
  same-covers : same_i (cut_i x k) x ≡ true → Covered x k
  unfolding same_i cut_i
  same-covers e =
      let low = eq_ℤ-true (max_ℤ x.lo k.lo) x.lo (both-fst (eq_ℤ (max_ℤ x.lo k.lo) x.lo) _ e) in
      let high = eq_ℤ-true (min_ℤ x.hi k.hi) x.hi (both-snd (eq_ℤ (max_ℤ x.lo k.lo) x.lo) _ e) in
      (rw low at (max-r x.lo k.lo), rw high at (min-r x.hi k.hi))

  module _ (h : Covered x k) where
    covers-same : same_i (cut_i x k) x ≡ true
    unfolding same_i cut_i
    covers-same =
        let least = max-both (λ z. z ≤ℤ x.lo) x.lo k.lo (omega zorder) h.0 in
        let most = min-both (λ z. x.hi ≤ℤ z) x.hi k.hi (omega zorder) h.1 in
        let low : max_ℤ x.lo k.lo ≡ x.lo = omega (zorder, max-l x.lo k.lo, least) in
        let high : min_ℤ x.hi k.hi ≡ x.hi = omega (zorder, min-l x.hi k.hi, most) in
        rw (low, high, eq_ℤ-refl x.lo, eq_ℤ-refl x.hi) refl

    covers-meets : x.lo ≤ℤ x.hi → meets_i x k ≡ true
    unfolding meets_i
    covers-meets o =
        rw (le-le_z k.lo x.hi (omega (zorder, h.0)), le-le_z x.lo k.hi (omega (zorder, h.1))) refl

    covers-not-inside : inside_i x k ≡ false
    unfolding inside_i
    covers-not-inside = rw (le-lt_z x.lo k.lo h.0) refl

-- ---- a question that some coordinate answers with no
pub record Some (n : ℕ) (p : ℕ → Bool) : Type 0 where
  pub place : ℕ
  pub live : place < n
  pub no : p place ≡ false

some-no : (n : ℕ) (p : ℕ → Bool) → all_b n p ≡ false → Some n p
unfolding all_b
some-no zero p e = absurd (zero_one (cc))
some-no (suc n) p e = by (all_b n p) refl e (some-no n p)
  where
    by : (t : Bool) → all_b n p ≡ t → both t (p n) ≡ false → (all_b n p ≡ false → Some n p) → Some (suc n) p
    by true a e r = record { place = n; live = omega arith; no = e }
    by false a e r = let s = r a in record { place = s.place; live = omega (arith, s.live); no = s.no }

-- ---- the decisions
module _ (n : ℕ) (x k : List Interval) where
  abbrev X : ℕ → Interval
  X = side_at x

  abbrev K : ℕ → Interval
  K = side_at k

  pub none-exactly : ((decide_of n x k).what ≡ Move.None) ↔ Empty n X K
  none-exactly = (only (decided n x k), where-empty)
    where
      only : Decided n x k → (decide_of n x k).what ≡ Move.None → Empty n X K
      only (none e m) w =
          let s = some-no n (λ i. meets_i (X i) (K i)) (unfold all_meet in m) in
          record { place = s.place; live = s.live; apart = meets-apart (X s.place) (K s.place) s.no }
      only (unique e s) w = absurd (zero_one (cc))
      only (stalled e s) w = absurd (zero_one (cc))
      only (next e m) w = absurd (zero_one (cc))

      where-empty : Empty n X K → (decide_of n x k).what ≡ Move.None
      where-empty h = unfold decide_of all_meet in
          (rw (all-stop (λ i. meets_i (X i) (K i)) n h.place h.live
          (apart-meets (X h.place) (K h.place) h.apart)) refl)

  -- an image is an interval, its ends in order
  pub unique-exactly : ((i : ℕ) → i < n → (K i).lo ≤ℤ (K i).hi)
      → ((decide_of n x k).what ≡ Move.Unique) ↔ Strictly n X K
  unique-exactly order = (only (decided n x k), where-strictly)
    where
      only : Decided n x k → (decide_of n x k).what ≡ Move.Unique → Strictly n X K
      only (none e m) w = absurd (zero_one (cc))
      only (unique e s) w = s
      only (stalled e s) w = absurd (zero_one (cc))
      only (next e m) w = absurd (zero_one (cc))

      where-strictly : Strictly n X K → (decide_of n x k).what ≡ Move.Unique
      where-strictly h = unfold decide_of all_meet all_inside in (rw (
        each_all (λ i. meets_i (X i) (K i)) n (λ i l. strictly-meets (X i) (K i) (order i l) (h i l)),
        each_all (λ i. inside_i (X i) (K i)) n (λ i l. strictly-inside (X i) (K i) (h i l)),
      ) refl)

  -- and so is a box; there is a coordinate to look at
  pub stalled-exactly : 1 ≤ n → ((i : ℕ) → i < n → (X i).lo ≤ℤ (X i).hi)
      → ((decide_of n x k).what ≡ Move.Stalled) ↔ Unchanged n X K
  stalled-exactly some order = (only (decided n x k), where-unchanged)
    where
      only : Decided n x k → (decide_of n x k).what ≡ Move.Stalled → Unchanged n X K
      only (none e m) w = absurd (zero_one (cc))
      only (unique e s) w = absurd (zero_one (cc))
      only (stalled e s) w =
          λ i l. same-covers (X i) (K i) (all-each (λ i. same_i (cut_i (X i) (K i)) (X i)) n i l (unfold cut_same in s))
      only (next e m) w = absurd (zero_one (cc))

      where-unchanged : Unchanged n X K → (decide_of n x k).what ≡ Move.Stalled
      where-unchanged h = unfold decide_of all_meet all_inside cut_same in (rw (
        each_all (λ i. meets_i (X i) (K i)) n (λ i l. covers-meets (X i) (K i) (h i l) (order i l)),
        all-stop (λ i. inside_i (X i) (K i)) n 0 some (covers-not-inside (X 0) (K 0) (h 0 some)),
        each_all (λ i. same_i (cut_i (X i) (K i)) (X i)) n (λ i l. covers-same (X i) (K i) (h i l)),
      ) refl)
