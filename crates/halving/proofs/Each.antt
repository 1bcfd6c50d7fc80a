-- What holds of every box that is listed: it is the box that a run of the job returned, from a box in range.
use mathlib.Core.Path.{◌≡◌, refl}
use mathlib.Core.Bool.{Bool, true, false, cond}
use mathlib.Core.List.{List, [], ◌∷◌, ◌++◌}
use mathlib.Core.Logic.{◌⊎◌, inl, inr, ⊎_elim}
use Prim.Native.Nat.{ℕ, zero, suc}
use lib.ListN.{length}
use Rattle.sizes.specs.Sizes.{n_max}
use Rattle.lists.proofs.Tab.{length-tab}
use Rattle.intervals.specs.Interval.{zero_i}
use Rattle.intervals.specs.Places.{side_at}
use Rattle.intervals.specs.declared.Interval.{Interval}
use Rattle.jobs.specs.declared.Job.{Job}
use Rattle.jobs.specs.declared.Verdict.{Verdict}
use Rattle.checks.specs.Accepted.{Accepted}
use Rattle.slopes.specs.Ranges.{BoxIn}
use Rattle.edges.specs.Edges.{is_wide, low_half, high_half}
use Rattle.edges.proofs.Halves.{low-in, high-in, low-length, high-length}
use Rattle.step.specs.Values.{start_of, box_of}
use Rattle.step.proofs.Given.{start-in}
use Rattle.runs.proofs.Left.{left_in, left-length}
use Rattle.halving.specs.Boxes.{Listed, listed_as, ran_from, list_by, cut_by}
use Rattle.halving.specs.Boxes.{boxes_by, boxes_from, boxes_of, Among}

-- ---- among boxes
pub among-left : (b : Listed) (xs ys : List Listed) → Among b xs → Among b (xs ++ ys)
unfolding Among
among-left b [] ys h = absurd h
among-left b (x ∷ xs) ys (inl e) = inl e
among-left b (x ∷ xs) ys (inr h) = inr (among-left b xs ys h)

pub among-right : (b : Listed) (xs ys : List Listed) → Among b ys → Among b (xs ++ ys)
unfolding Among
among-right b [] ys h = h
among-right b (x ∷ xs) ys h = inr (among-right b xs ys h)

among-split : (b : Listed) (xs ys : List Listed) → Among b (xs ++ ys) → Among b xs ⊎ Among b ys
unfolding Among
among-split b [] ys h = inr h
among-split b (x ∷ xs) ys (inl e) = inl (inl e)
among-split b (x ∷ xs) ys (inr h) = ⊎_elim (λ l. inl (inr l)) (λ r. inr r) (among-split b xs ys h)

-- ---- boxes as halving has them
module _ (j : Job) (a : Accepted j) where
  abbrev n : ℕ
  n = j.head.n

  pub record Right (x : List Interval) : Type 0 where
    pub box : BoxIn n (side_at x)
    pub size : length x ≡ n_max

  pub returned : (x : List Interval) → Right x → Right (ran_from j x).sides
  returned x h = record { box = left_in j a x h.box j.steps; size = left-length j a x h.size j.steps }

  pub low : (x : List Interval) → Right x → Right (low_half n x)
  low x h = record { box = low-in x a.some h.size h.box; size = low-length n x h.size }

  pub high : (x : List Interval) → Right x → Right (high_half n x)
  high x h = record { box = high-in x a.some h.size h.box; size = high-length n x h.size }

  pub start : Right (start_of j)
  unfolding box_of
  start = record { box = start-in a; size = length-tab zero_i n_max n _ }

  -- ---- what holds where a run says unique, and of a box listed as open
  module _ (P : Listed → Type 0)
      (on_unique : (x : List Interval) → Right x → (ran_from j x).verdict ≡ Verdict.Unique
      → P (record { unique = true; sides = (ran_from j x).sides }))
      (on_open : (x : List Interval) → Right x → P (record { unique = false; sides = x })) (b : Listed) where
    only : (c : Listed) → P c → Among b (c ∷ []) → P b
    unfolding Among
    only c p (inl e) = rw e p
    only c p (inr h) = absurd h

    by-verdict : (x : List Interval) → Right x → (v : Verdict) → (ran_from j x).verdict ≡ v → (taken : List Listed)
        → (Among b taken → P b) → Among b (list_by v (ran_from j x).sides taken) → P b
    unfolding Among
    by-verdict x right Verdict.None e taken rest m = absurd m
    by-verdict x right Verdict.Unique e taken rest m = only _ (on_unique x right e) m
    by-verdict x right Verdict.Stalled e taken rest m = rest m
    by-verdict x right Verdict.Spent e taken rest m = rest m

    by-cut : (x : List Interval) (half : List Interval → List Listed) → Right x
        → ((y : List Interval) → Right y → Among b (half y) → P b) → Among b (cut_by n x half) → P b
    unfolding cut_by
    by-cut x half right each = by (is_wide n x)
      where
        by : (wide : Bool) → Among b (cond wide (half (low_half n x) ++ half (high_half n x)) (listed_as false x)) → P b
        by true m =
            ⊎_elim (each (low_half n x) (low x right)) (each (high_half n x) (high x right)) (among-split b _ _ m)
        by false m = only _ (on_open x right) m

    each_from : (depth : ℕ) (x : List Interval) → Right x → Among b (boxes_from j depth x) → P b
    unfolding boxes_by
    each_from zero x right =
        by-verdict x right (ran_from j x).verdict refl _ (only _ (on_open (ran_from j x).sides (returned x right)))
    each_from (suc depth) x right =
        by-verdict x right (ran_from j x).verdict refl _
        (by-cut (ran_from j x).sides (boxes_from j depth) (returned x right) (each_from depth))

    pub each-box : (depth : ℕ) → Among b (boxes_of j depth) → P b
    unfolding boxes_of
    each-box depth = each_from depth (start_of j) start

  -- its ends are in range
  pub listed_in : (b : Listed) (depth : ℕ) → Among b (boxes_of j depth) → BoxIn n (side_at b.sides)
  listed_in b depth =
      each-box (λ b. BoxIn n (side_at b.sides)) (λ x right e. (returned x right).box) (λ x right. right.box) b depth
