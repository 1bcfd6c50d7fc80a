-- What each decision says of the box X and its image K, and the cut of the two, place by place.
use mathlib.Core.Path.{◌≡◌, refl}
use mathlib.Core.Bool.{Bool, true, false}
use mathlib.Core.List.{List}
use Prim.Native.Nat.{ℕ, ◌≤◌, ◌<◌}
use native.Mathlib.Omega.{arith}
use lib.IntN.{ℤ}
use lib.Signed.{◌≤ℤ◌, lt_z}
use Rattle.sizes.specs.Sizes.{n_max}
use Rattle.lists.proofs.All.{all-each, both-fst, both-snd}
use Rattle.integers.proofs.Parts.{zorder}
use Rattle.integers.proofs.Order.{lt_z-true}
use Rattle.intervals.specs.Interval.{meets_i, inside_i, cut_i}
use Rattle.intervals.specs.Places.{side_at}
use Rattle.intervals.specs.Fraction.{In, Inside}
use Rattle.intervals.proofs.Places.{side-made}
use Rattle.intervals.proofs.Meeting.{cut-order, hold-meets}
use Rattle.term_checks.proofs.RangeLaws.{each_all}
use Rattle.intervals.specs.declared.Interval.{Interval}
use Rattle.jobs.specs.declared.Equation.{Equation}
use Rattle.step.specs.declared.Move.{Move}
use Rattle.step.specs.Meanings.{Strictly}
use Rattle.step.specs.Decide.{all_meet, all_inside, cut_same, cut_box, decision, decide_of, step_of}
use Rattle.step.specs.Step.{image_box}
use Rattle.intervals.proofs.Meeting as intervals

-- two that differ, by `cc`
pub zero_one : ◌≡◌ {A = ℕ} 0 1 → ⊥
zero_one e = omega arith

module _ (n : ℕ) (x k : List Interval) where
  -- the decision, with what its tests found
  pub data Decided : Type 0 where
    none : decide_of n x k ≡ decision Move.None x → all_meet n x k ≡ false → Decided
    unique : decide_of n x k ≡ decision Move.Unique k → Strictly n (side_at x) (side_at k) → Decided
    stalled : decide_of n x k ≡ decision Move.Stalled x → cut_same n x k ≡ true → Decided
    next : decide_of n x k ≡ decision Move.Next (cut_box n x k) → all_meet n x k ≡ true → Decided

  inside-strictly : all_inside n x k ≡ true → Strictly n (side_at x) (side_at k)
  unfolding all_inside inside_i
  inside-strictly e i l =
      let t = all-each (λ i. inside_i (side_at x i) (side_at k i)) n i l e in
      let low = lt_z-true (side_at x i).lo (side_at k i).lo (both-fst (lt_z (side_at x i).lo (side_at k i).lo) _ t) in
      let high = lt_z-true (side_at k i).hi (side_at x i).hi (both-snd (lt_z (side_at x i).lo (side_at k i).lo) _ t) in
      (omega (zorder, low), omega (zorder, high))

  pub decided : Decided
  unfolding decide_of
  decided = by (all_meet n x k) refl (all_inside n x k) refl (cut_same n x k) refl
    where
      by : (m : Bool) → all_meet n x k ≡ m → (s : Bool) → all_inside n x k ≡ s → (t : Bool) → cut_same n x k ≡ t
          → Decided
      by false m s i t e = none (rw m) m
      by true m true i t e = unique (rw (m, i)) (inside-strictly i)
      by true m false i true e = stalled (rw (m, i, e)) e
      by true m false i false e = next (rw (m, i, e)) m

  -- a fraction point in both boxes: they meet
  pub all_meet_lem : (P : ℕ → ℤ) {d : ℤ} → ((i : ℕ) → i < n → In (P i) d (side_at x i))
      → ((i : ℕ) → i < n → In (P i) d (side_at k i)) → all_meet n x k ≡ true
  unfolding all_meet
  all_meet_lem P h g = each_all (λ i. meets_i (side_at x i) (side_at k i)) n (λ i l. hold-meets (h i l) (g i l))

  module _ (room : n ≤ n_max) where
    pub cut_at : (i : ℕ) → i < n → side_at (cut_box n x k) i ≡ cut_i (side_at x i) (side_at k i)
    unfolding cut_box
    cut_at i l = side-made n room (λ i. cut_i (side_at x i) (side_at k i)) refl i l

    -- what a step that decides nothing hands on lies in X; K itself need not
    pub cut_inside : (i : ℕ) → i < n → Inside (side_at (cut_box n x k) i) (side_at x i)
    cut_inside i l = rw (cut_at i l) (intervals.cut_inside (side_at x i) (side_at k i))

    -- boxes that meet have a cut whose ends stand in order
    pub cut-ordered : all_meet n x k ≡ true → (i : ℕ)
        → i < n → (side_at x i).lo ≤ℤ (side_at x i).hi → (side_at k i).lo ≤ℤ (side_at k i).hi
        → (side_at (cut_box n x k) i).lo ≤ℤ (side_at (cut_box n x k) i).hi
    unfolding all_meet
    cut-ordered e i l a b =
        rw (cut_at i l) (cut-order _ _ a b (all-each (λ i. meets_i (side_at x i) (side_at k i)) n i l e))

-- a step decides by the image of its box
pub step_is : (n : ℕ) (q : ℕ → Equation) (C : ℕ → ℕ → ℤ) (x : List Interval)
    → step_of n q C x ≡ decide_of n x (image_box n q C x)
unfolding step_of
step_is n q C x = refl
