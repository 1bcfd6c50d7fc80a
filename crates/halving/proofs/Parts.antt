-- What the code asks of a box that was run says which boxes are listed. They are at most two to the power of the depth.
use Prim.Native.Nat.{ℕ, zero, suc, ◌-◌, ◌^◌, ◌≤◌}
use native.Mathlib.Nat.{pow-suc}
use native.Mathlib.Numerals.{sub-one}
use native.Mathlib.Omega.{arith}
use mathlib.Core.Path.{◌≡◌, refl, ◌∙◌}
use mathlib.Core.Bool.{Bool, true, false, cond}
use mathlib.Core.List.{List, [], ◌++◌}
use mathlib.Core.Logic.{◌⊎◌, inl, inr, ⊎_elim}
use lib.Dec.{eqb-suc-zero}
use lib.ListN.{length, length-append}
use lib.Pow.{pow_pos}
use Rattle.intervals.specs.declared.Interval.{Interval}
use Rattle.jobs.specs.declared.Verdict.{Verdict}
use Rattle.edges.specs.Edges.{is_wide, low_half, high_half}
use Rattle.step.proofs.Decisions.{zero_one}
use Rattle.run.specs.declared.Outcome.{Outcome}
use Rattle.halving.specs.declared.Part.{Part}
use Rattle.halving.specs.Boxes.{Listed, listed_as, list_by, cut_by, boxes_by}
use Rattle.halving.specs.Parts.{undecided_part, part_by, part_of}

-- what becomes of the box x that was not decided, a half with depth d giving `rest d`
abbrev taken : ℕ → List Interval → ℕ → (ℕ → List Interval → List Listed) → List Listed
taken n x zero rest = listed_as false x
taken n x (suc depth) rest = cut_by n x (rest depth)

module _ (n : ℕ) (x : List Interval) where
  open-or-cut : (depth : ℕ) → (undecided_part n x depth ≡ Part.Open) ⊎ (undecided_part n x depth ≡ Part.Cut)
  unfolding undecided_part
  open-or-cut zero = inl refl
  open-or-cut (suc depth) = by (is_wide n x) refl
    where
      by : (b : Bool) → is_wide n x ≡ b
          → (undecided_part n x (suc depth) ≡ Part.Open) ⊎ (undecided_part n x (suc depth) ≡ Part.Cut)
      by true e = inr (rw (eqb-suc-zero depth, e))
      by false e = inl (rw (eqb-suc-zero depth, e))

  not-dropped : (depth : ℕ) → undecided_part n x depth ≡ Part.Dropped → ⊥
  not-dropped depth e = ⊎_elim (λ o. zero_one (cc)) (λ o. zero_one (cc)) (open-or-cut depth)

  not-unique : (depth : ℕ) → undecided_part n x depth ≡ Part.Unique → ⊥
  not-unique depth e = ⊎_elim (λ o. zero_one (cc)) (λ o. zero_one (cc)) (open-or-cut depth)

  module _ (rest : ℕ → List Interval → List Listed) where
    abbrev both : ℕ → List Listed
    both depth = rest depth (low_half n x) ++ rest depth (high_half n x)

    open-taken : (depth : ℕ) → undecided_part n x depth ≡ Part.Open → taken n x depth rest ≡ listed_as false x
    unfolding undecided_part cut_by
    open-taken zero e = refl
    open-taken (suc depth) e = by (is_wide n x) (rw eqb-suc-zero at e)
      where
        by : (b : Bool) → cond b Part.Cut Part.Open ≡ Part.Open
            → cond b (both depth) (listed_as false x) ≡ listed_as false x
        by true e = absurd (zero_one (cc))
        by false e = refl

    cut-taken : (depth : ℕ) → undecided_part n x depth ≡ Part.Cut → taken n x depth rest
        ≡ both (depth - 1)
    unfolding undecided_part cut_by
    cut-taken zero e = absurd (zero_one (cc))
    cut-taken (suc depth) e = rw sub-one (by (is_wide n x) (rw eqb-suc-zero at e))
      where
        by : (b : Bool) → cond b Part.Cut Part.Open ≡ Part.Cut → cond b (both depth) (listed_as false x) ≡ both depth
        by true e = refl
        by false e = absurd (zero_one (cc))

  pub cut-deep : (depth : ℕ) → undecided_part n x depth ≡ Part.Cut → 1 ≤ depth
  unfolding undecided_part
  cut-deep zero e = absurd (zero_one (cc))
  cut-deep (suc depth) e = omega arith

  -- what is listed, by the verdict
  module _ (depth : ℕ) (rest : ℕ → List Interval → List Listed) where
    dropped : (v : Verdict) → part_by v (undecided_part n x depth) ≡ Part.Dropped
        → list_by v x (taken n x depth rest) ≡ []
    dropped Verdict.None e = refl
    dropped Verdict.Unique e = absurd (zero_one (cc))
    dropped Verdict.Stalled e = absurd (not-dropped depth e)
    dropped Verdict.Spent e = absurd (not-dropped depth e)

    unique : (v : Verdict) → part_by v (undecided_part n x depth) ≡ Part.Unique
        → list_by v x (taken n x depth rest) ≡ listed_as true x
    unique Verdict.None e = absurd (zero_one (cc))
    unique Verdict.Unique e = refl
    unique Verdict.Stalled e = absurd (not-unique depth e)
    unique Verdict.Spent e = absurd (not-unique depth e)

    opened : (v : Verdict) → part_by v (undecided_part n x depth) ≡ Part.Open
        → list_by v x (taken n x depth rest) ≡ listed_as false x
    opened Verdict.None e = absurd (zero_one (cc))
    opened Verdict.Unique e = absurd (zero_one (cc))
    opened Verdict.Stalled e = open-taken rest depth e
    opened Verdict.Spent e = open-taken rest depth e

    halved : (v : Verdict) → part_by v (undecided_part n x depth) ≡ Part.Cut
        → (1 ≤ depth) × (list_by v x (taken n x depth rest) ≡ both rest (depth - 1))
    halved Verdict.None e = absurd (zero_one (cc))
    halved Verdict.Unique e = absurd (zero_one (cc))
    halved Verdict.Stalled e = (cut-deep depth e, cut-taken rest depth e)
    halved Verdict.Spent e = (cut-deep depth e, cut-taken rest depth e)

module _ (run : List Interval → Outcome) (n : ℕ) (x : List Interval) where
  abbrev o : Outcome
  o = run x

  -- the box that the run returns is dropped, listed or cut
  boxes-are : (depth : ℕ)
      → boxes_by run n depth x ≡ list_by o.verdict o.sides (taken n o.sides depth (boxes_by run n))
  unfolding boxes_by
  boxes-are zero = refl
  boxes-are (suc depth) = refl

  module _ (depth : ℕ) where
    abbrev part : Part
    part = part_of o.verdict n o.sides depth

    pub boxes-dropped : part ≡ Part.Dropped → boxes_by run n depth x ≡ []
    unfolding part_of
    boxes-dropped e = boxes-are depth ∙ dropped n o.sides depth (boxes_by run n) o.verdict e

    pub boxes-unique : part ≡ Part.Unique → boxes_by run n depth x ≡ listed_as true o.sides
    unfolding part_of
    boxes-unique e = boxes-are depth ∙ unique n o.sides depth (boxes_by run n) o.verdict e

    pub boxes-open : part ≡ Part.Open → boxes_by run n depth x ≡ listed_as false o.sides
    unfolding part_of
    boxes-open e = boxes-are depth ∙ opened n o.sides depth (boxes_by run n) o.verdict e

    pub cut_left : part ≡ Part.Cut → 1 ≤ depth
    unfolding part_of
    cut_left e = (halved n o.sides depth (boxes_by run n) o.verdict e).0

    pub boxes-cut : part ≡ Part.Cut → boxes_by run n depth x
        ≡ boxes_by run n (depth - 1) (low_half n o.sides)
        ++ boxes_by run n (depth - 1) (high_half n o.sides)
    unfolding part_of
    boxes-cut e = boxes-are depth ∙ (halved n o.sides depth (boxes_by run n) o.verdict e).1

-- ---- at most two to the power of the depth
module _ (depth : ℕ) where
  few-listed : (v : Verdict) (x : List Interval) (bs : List Listed) → length bs ≤ 2 ^ depth
      → length (list_by v x bs) ≤ 2 ^ depth
  few-listed Verdict.None x bs h = omega arith
  few-listed Verdict.Unique x bs h = pow_pos depth
  few-listed Verdict.Stalled x bs h = h
  few-listed Verdict.Spent x bs h = h

few-cut : (depth n : ℕ) (x : List Interval) (half : List Interval → List Listed)
    → ((y : List Interval) → length (half y) ≤ 2 ^ depth) → length (cut_by n x half) ≤ 2 ^ suc depth
unfolding cut_by
few-cut depth n x half h = by (is_wide n x)
  where
    by : (b : Bool) → length (cond b (half (low_half n x) ++ half (high_half n x))
        (listed_as false x)) ≤ 2 ^ suc depth
    by true =
        let e = pow-suc 2 depth in
        simp length-append (omega (arith, h (low_half n x), h (high_half n x)))
    by false = pow_pos (suc depth)

pub boxes-few : (run : List Interval → Outcome) (n depth : ℕ) (x : List Interval)
    → length (boxes_by run n depth x) ≤ 2 ^ depth
unfolding boxes_by
boxes-few run n zero x = few-listed 0 (run x).verdict (run x).sides _ (pow_pos 0)
boxes-few run n (suc depth) x =
    few-listed (suc depth) (run x).verdict (run x).sides _
    (few-cut depth n (run x).sides (boxes_by run n depth) (boxes-few run n depth))
