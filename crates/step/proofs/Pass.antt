-- One pass over the coordinates of X and K: what it has found below i is what the definitions say of i coordinates.
use mathlib.Core.Path.{◌≡◌, refl}
use mathlib.Core.Bool.{Bool, true, false, cond}
use mathlib.Core.List.{List}
use Prim.Native.Nat.{ℕ, ◌+◌, ◌≤◌, ◌<◌}
use native.Mathlib.Nat.{le_antisymm}
use native.Mathlib.Numerals.{add-one}
use lib.ListN.{set, replicate}
use Rattle.sizes.specs.Sizes.{n_max}
use Rattle.lists.specs.Loops.{both, all_b}
use Rattle.lists.proofs.All.{all-stop}
use Rattle.lists.proofs.Tab.{tab-none, tab-more}
use Rattle.intervals.specs.Interval.{zero_i, meets_i, inside_i, cut_i, same_i}
use Rattle.intervals.specs.Places.{side_at}
use Rattle.intervals.specs.declared.Interval.{Interval}
use Rattle.step.specs.declared.Move.{Move}
use Rattle.step.specs.Decide.{all_meet, all_inside, cut_same, cut_box, decision, decide_of}

module _ (x k : List Interval) where
  pub record Passed (i : ℕ) (c : List Interval) (inside same : Bool) : Type 0 where
    pub meets : all_meet i x k ≡ true
    pub strictly : inside ≡ all_inside i x k
    pub stays : same ≡ cut_same i x k
    pub cuts : c ≡ cut_box i x k

  pub pass-none : Passed 0 (replicate n_max zero_i) true true
  unfolding all_meet all_inside cut_same cut_box all_b
  pass-none = record { meets = refl; strictly = refl; stays = refl; cuts = tab-none zero_i n_max _ }

  pub pass-more : {i : ℕ} {c : List Interval} {inside same more-inside more_same : Bool} {side : Interval}
      → i < n_max → Passed i c inside same
      → meets_i (side_at x i) (side_at k i) ≡ true → side ≡ cut_i (side_at x i) (side_at k i)
      → more-inside ≡ both inside (inside_i (side_at x i) (side_at k i))
      → more_same ≡ both same (same_i side (side_at x i))
      → Passed (i + 1) (set c i side) more-inside more_same
  unfolding all_meet all_inside cut_same cut_box all_b
  pass-more {i} l p m e s t = record {
    meets = rw (add-one, p.meets, m);
    strictly = rw (add-one, s, p.strictly);
    stays = rw (add-one, t, p.stays, e);
    cuts = tab-more zero_i n_max i _ l p.cuts e;
  }

  -- after it, no coordinate lies apart: the decision is by what was found
  pub pass-decides : {i n : ℕ} {c : List Interval} {inside same : Bool} → i ≤ n → n ≤ i → Passed i c inside same
      → cond inside (decision Move.Unique k) (cond same (decision Move.Stalled x) (decision Move.Next c))
      ≡ decide_of n x k
  unfolding decide_of
  pass-decides h g p = rw (← le_antisymm h g, p.meets, p.strictly, p.stays, p.cuts) refl

  -- a coordinate that lies apart decides
  pub apart-decides : (n i : ℕ) → i < n → meets_i (side_at x i) (side_at k i) ≡ false
      → decision Move.None x ≡ decide_of n x k
  unfolding decide_of all_meet
  apart-decides n i l e = rw (all-stop (λ i. meets_i (side_at x i) (side_at k i)) n i l e) refl
