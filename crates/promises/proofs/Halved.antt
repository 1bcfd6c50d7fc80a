-- Halving loses no zero, and a box that it lists as unique holds at most one.
use mathlib.Core.Path.{◌≡◌, refl, sym}
use mathlib.Core.Bool.{Bool, true, false, cond, true≢false}
use mathlib.Core.List.{List, [], ◌++◌}
use mathlib.Core.Logic.{inl, ⊎_elim}
use Prim.Native.Nat.{ℕ, zero, suc}
use Rattle.integers.proofs.Parts.{zorder}
use Rattle.integers.proofs.Order.{mul-mono-r, nonneg}
use Rattle.intervals.specs.Fraction.{In, Inside}
use Rattle.intervals.specs.Places.{side_at}
use Rattle.intervals.specs.declared.Interval.{Interval}
use Rattle.jobs.specs.declared.Job.{Job}
use Rattle.jobs.specs.declared.Verdict.{Verdict}
use Rattle.checks.specs.Accepted.{Accepted}
use Rattle.systems.specs.Kinds.{equation_of}
use Rattle.edges.specs.Edges.{is_wide, low_half, high_half}
use Rattle.edges.proofs.Halves.{halves-hold}
use Rattle.step.specs.Values.{start_of, inverse_of}
use Rattle.runs.proofs.Runs.{run-shrinks, run-keeps}
use Rattle.runs.proofs.Left.{job-degrees}
use Rattle.halving.specs.Boxes.{Listed, listed_as, ran_from, list_by, cut_by}
use Rattle.halving.specs.Boxes.{boxes_by, boxes_from, boxes_of, Among}
use Rattle.halving.proofs.Each.{among-left, among-right, Right, returned, low, high, start, each-box}
use Rattle.promises.specs.Claims.{Point, Lies, Same, Zero, BoxInside}
use Rattle.promises.specs.Halved.{InListed}
use Rattle.promises.proofs.Jobs.{system_from}
use Rattle.promises.proofs.Answers.{answer-same}

module _ (n : ℕ) (p : Point) where
  in_left : (xs ys : List Listed) → InListed n p xs → InListed n p (xs ++ ys)
  in_left xs ys h = record { box = h.box; listed = among-left h.box xs ys h.listed; lies = h.lies }

  in_right : (xs ys : List Listed) → InListed n p ys → InListed n p (xs ++ ys)
  in_right xs ys h = record { box = h.box; listed = among-right h.box xs ys h.listed; lies = h.lies }

  in_one : (unique : Bool) (x : List Interval) → Lies n p x → InListed n p (listed_as unique x)
  unfolding Among
  in_one unique x h = record { box = record { unique = unique; sides = x }; listed = inl refl; lies = h }

  pub in-none : InListed n p [] → ⊥
  unfolding Among
  in-none h = h.listed

-- what lies in a box lies in one around it
lies-around : {n : ℕ} {p : Point} {x y : List Interval} → BoxInside n x y → Lies n p x → Lies n p y
lies-around {n} {p} {x} {y} around h =
    record { den = h.den; each = λ k l. wider k (around.each k l) (h.each k l) }
  where
    wider : (k : ℕ) → Inside (side_at x k) (side_at y k) → In (p.num k) p.den (side_at x k)
        → In (p.num k) p.den (side_at y k)
    wider k i g = record {
      den = g.den;
      low = omega (zorder, mul-mono-r i.low (nonneg g.den), g.low);
      high = omega (zorder, mul-mono-r i.high (nonneg g.den), g.high);
    }

module _ (j : Job) (a : Accepted j) where
  abbrev n : ℕ
  n = j.head.n

  -- ---- no zero is lost
  module _ {p : Point} (zero-at : Zero n (equation_of j) p) where
    listed : (v : Verdict) (x : List Interval) (taken : List Listed) → (v ≡ Verdict.None → ⊥) → Lies n p x
        → InListed n p taken → InListed n p (list_by v x taken)
    listed Verdict.None x taken not h g = absurd (not refl)
    listed Verdict.Unique x taken not h g = in_one n p true x h
    listed Verdict.Stalled x taken not h g = g
    listed Verdict.Spent x taken not h g = g

    halved : (x : List Interval) (half : List Interval → List Listed) → Right j a x → Lies n p x
        → ((y : List Interval) → Right j a y → Lies n p y → InListed n p (half y)) → InListed n p (cut_by n x half)
    unfolding cut_by
    halved x half right h each = by (is_wide n x)
      where
        by : (b : Bool) → InListed n p (cond b (half (low_half n x) ++ half (high_half n x)) (listed_as false x))
        by true =
            ⊎_elim
            (λ l. in_left n p (half (low_half n x)) (half (high_half n x)) (each (low_half n x) (low j a x right) l))
            (λ l. in_right n p (half (low_half n x)) (half (high_half n x)) (each (high_half n x) (high j a x right) l))
            (halves-hold x a.some right.size right.box h)
        by false = in_one n p false x h

    kept : (x : List Interval) → Lies n p x
        → Lies n p (ran_from j x).sides × ((ran_from j x).verdict ≡ Verdict.None → ⊥)
    kept x h = run-keeps n (equation_of j) (inverse_of j) a.few (job-degrees j a) zero-at.each j.steps 0 x h

    covered : (depth : ℕ) (x : List Interval) → Right j a x → Lies n p x → InListed n p (boxes_from j depth x)
    unfolding boxes_by
    covered zero x right h =
        listed (ran_from j x).verdict _ _ (kept x h).1 (kept x h).0 (in_one n p false _ (kept x h).0)
    covered (suc depth) x right h =
        listed (ran_from j x).verdict _ _ (kept x h).1 (kept x h).0
        (halved (ran_from j x).sides (boxes_from j depth) (returned j a x right) (kept x h).0 (covered depth))

    pub zero-listed : (depth : ℕ) → Lies n p (start_of j) → InListed n p (boxes_of j depth)
    unfolding boxes_of
    zero-listed depth h = covered depth (start_of j) (start j a) h

  -- ---- at most one: where a run says unique, the box that it returns lies in the one that it began on
  module _ {p r : Point} (y : Zero n (equation_of j) p) (z : Zero n (equation_of j) r) where
    abbrev HoldsOne : Listed → Type 0
    HoldsOne b = b.unique ≡ true → Lies n p b.sides → Lies n r b.sides → Same n p r

    pub one-in-unique : (b : Listed) (depth : ℕ) → Among b (boxes_of j depth) → HoldsOne b
    one-in-unique = each-box j a HoldsOne
        (λ x right e says h g.
        let inside = run-shrinks n (equation_of j) (inverse_of j) a.few j.steps 0 x in
        answer-same (system_from j a x (λ k l. (right.box.each k l).order)) j.steps e y z
        (lies-around inside h) (lies-around inside g))
        (λ x right says. absurd (true≢false (sym says)))
