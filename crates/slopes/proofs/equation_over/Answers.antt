use mathlib.Core.Path.{◌≡◌, refl, sym, ap, ◌∙◌}
use mathlib.Core.List.{List}
use Prim.Native.Nat.{ℕ, ◌<◌, ◌≤◌}
use native.Mathlib.Nat.{pos_of_ne-zero}
use native.Mathlib.Omega.{arith}
use lib.ListN.{length, get_or, length-set}
use Rattle.intervals.specs.Interval.{scale_i}
use Rattle.intervals.proofs.Sums.{sum_i-none, sum_i-more, sum_i-done}
use Rattle.intervals.specs.Places.{side_at}
use Rattle.slopes.specs.Terms.{coef_of, exps_of, term_over, equation_over, lowered, slope_over, slope_row, term_slope}
use Rattle.slopes.proofs.Cases.{factor-none, term-none, term-more, term-done, slope-some}
use Rattle.slopes.proofs.Exponents.{lowered-at, lowered_none}
use Rattle.slopes.proofs.Live.{LiveIn, live-start, live-skip, live-add, live-taken}
use Rattle.slopes.proofs.Live.{live-none, live_at, live_more, live-done}
use Rattle.slopes.proofs.Live.{live-row-none, live-row-at, live-row-more, live-row-done}
use Rattle.slopes.proofs.Ranges.{term-factor, equation-fits, lowered-factor, slope-fits, slope-sum-fits}
use Rattle.slopes.proofs.Rows.{row-none, row_done, row_read, row_put}
use Rattle.intervals.specs.declared.Interval.{Interval}
use Rattle.jobs.specs.declared.Equation.{Equation}
use Rattle.slopes.proofs.Live.{stop}
use Rattle.slopes.proofs.equation_over.Goals as goal
use Rattle.slopes.proofs.equation_over.Goals.{then-e-ne0, else-e-ne0}

-- the part of a term in a slope: the lowered term, its ends multiplied by the exponent
part : {n u w : ℕ} {places : List ℕ} {a r : Interval} (q : Equation) (x : ℕ → Interval) (i : ℕ)
    → LiveIn n (exps_of q i) places (length places) → u < length places → length places ≤ w
    → a ≡ term_over (stop n places (length places) w) (coef_of q i) (lowered (get_or places u 0) (exps_of q i)) x
    → r ≡ scale_i (exps_of q i (get_or places u 0)) a
    → r ≡ term_slope n (coef_of q i) (exps_of q i) (get_or places u 0) x
part {u = u} q x i live l h e p =
    p ∙ ap (scale_i _) (live-done _ _ _ _ _ _ _ live (lowered_none _ _) h e)
    ∙ sym (slope-some _ _ _ _ _ (live.stands u l))

-- ---- the value, and the places where an unknown stands
pub loop-i-init : goal.loop-i-init
loop-i-init c = record { value = sum_i-none _; slopes = row-none _ _ }

pub loop-k-init : goal.loop-k-init
loop-k-init c = record { term = c.start-b.ensures ∙ term-none _ _ _; long = refl; found = live-start _ _ }

pub factor-b-requires : goal.factor-b-requires
factor-b-requires c =
    rw c.loop-k.invariant.term
    (term-factor c.requires.m_in (c.requires.q_in.each c.loop-i.i c.loop-i-test.true) c.loop-k.k
    c.loop-k-test.true)

pub loop-k-preserved : goal.loop-k-preserved
loop-k-preserved c =
    let l = c.loop-k.invariant in
    elim c.if-e-ne0.branch [
      | then-e-ne0 w ↦ record {
        term = w.b-is ∙ term-more _ _ _ _ w.factor-b.ensures refl l.term;
        long = rw w.live-is (length-set _ _ _ ∙ l.long);
        found = rw (w.live-is, w.some-is)
            (live-add _ _ _ _ l.found w.if-e-ne0.true (omega (arith, l.long, l.found.few, c.requires.m_in.places)));
      }
      | else-e-ne0 w ↦ record {
        term = w.b-is ∙ term-more _ _ _ _ (sym (factor-none _ _ _ w.if-e-ne0.false)) refl l.term;
        long = rw w.live-is l.long;
        found = rw (w.live-is, w.some-is) (live-skip _ _ _ _ l.found w.if-e-ne0.false);
      }
    ]

pub add-value-requires : goal.add-value-requires
add-value-requires c =
    rw (c.loop-i.invariant.value, term-done _ _ _ c.loop-k.auto.k-end c.loop-k-test.false c.loop-k.invariant.term)
    (equation-fits c.requires.m_in c.requires.q_in c.loop-i.i c.loop-i-test.true)

-- ---- the slopes
pub loop-j-init : goal.loop-j-init
loop-j-init c =
    let a = c.args in
    let k = c.loop-k in
    let few : k.some ≤ length k.live = omega (arith, k.invariant.long, k.invariant.found.few, c.requires.m_in.places) in
    let found = live-taken k.auto.k-end c.loop-k-test.false few k.invariant.found in
    let row = live-row-none a.n a.q (side_at a.x) c.loop-i.i _ _ found c.loop-i.invariant.slopes in
    record { found = found; slopes = row }

pub loop-k-2-init : goal.loop-k-2-init
loop-k-2-init c =
    let a = c.args in
    let e = exps_of a.q c.loop-i.i in
    c.start-a.ensures ∙ live-none _ _ (side_at a.x) a.n e _ _ c.loop-j.invariant.found (lowered_none _ e)

pub less-requires : goal.less-requires
less-requires c = λ h. pos_of_ne-zero (c.loop-j.invariant.found.stands c.loop-k-2.k-index c.loop-k-2-test.true)

pub factor-a-requires : goal.factor-a-requires
factor-a-requires c =
    let l = c.loop-j.invariant.found in
    let term = c.requires.q_in.each c.loop-i.i c.loop-i-test.true in
    let u = c.loop-j.j-index in
    let w = c.loop-k-2.k-index in
    lowered-factor c.requires.x_in term _ (l.inside u c.loop-j-test.true)
    (pos_of_ne-zero (l.stands u c.loop-j-test.true)) _ (l.inside w c.loop-k-2-test.true)
    (live_at _ _ _ _ _ _ _ l (lowered_none _ _) c.loop-k-2-test.true c.loop-k-2.invariant) c.less.ensures

pub loop-k-2-preserved : goal.loop-k-2-preserved
loop-k-2-preserved c =
    live_more _ _ _ _ _ _ _ c.loop-j.invariant.found (lowered_none _ _) c.loop-k-2.k-index c.loop-k-2-test.true
    c.factor-a.ensures (c.less.ensures ∙ lowered-at _ _ _) c.loop-k-2.invariant

pub scaled-requires : goal.scaled-requires
scaled-requires c =
    let l = c.loop-j.invariant.found in
    let u = c.loop-j.j-index in
    let term = c.requires.q_in.each c.loop-i.i c.loop-i-test.true in
    rw (live-done _ _ _ _ _ _ _ l (lowered_none _ _) c.loop-k-2-test.false c.loop-k-2.invariant)
    (slope-fits c.requires.x_in term _ (l.inside u c.loop-j-test.true)
    (pos_of_ne-zero (l.stands u c.loop-j-test.true)))

pub add-requires : goal.add-requires
add-requires c =
    let l = c.loop-j.invariant.found in
    let a = c.args in
    let u = c.loop-j.j-index in
    let in-n = l.inside u c.loop-j-test.true in
    let row = live-row-at a.n a.q (side_at a.x) c.loop-i.i _ _ l u c.loop-j-test.true c.loop-j.invariant.slopes in
    rw (
      row_read _ _ _ _ in-n row c.requires.x_in.places,
      part a.q (side_at a.x) c.loop-i.i l c.loop-j-test.true c.loop-k-2-test.false c.loop-k-2.invariant
          c.scaled.ensures,
    )
    (slope-sum-fits c.requires.x_in c.requires.q_in _ in-n c.loop-i.i c.loop-i-test.true)

pub loop-j-preserved : goal.loop-j-preserved
loop-j-preserved c =
    let l = c.loop-j.invariant.found in
    let a = c.args in
    let u = c.loop-j.j-index in
    let in-n = l.inside u c.loop-j-test.true in
    let row = live-row-at a.n a.q (side_at a.x) c.loop-i.i _ _ l u c.loop-j-test.true c.loop-j.invariant.slopes in
    let more =
    part a.q (side_at a.x) c.loop-i.i l c.loop-j-test.true c.loop-k-2-test.false c.loop-k-2.invariant
    c.scaled.ensures in
    let sum = sum_i-more _ _ c.add.ensures (row_read _ _ _ _ in-n row c.requires.x_in.places) more in
    record {
      found = l;
      slopes = live-row-more a.n a.q (side_at a.x) c.loop-i.i _ _ l u c.loop-j-test.true (row_put _ _ _ _ in-n row sum);
    }

-- ---- the sums
pub loop-i-preserved : goal.loop-i-preserved
loop-i-preserved c =
    let a = c.args in
    let term = term-done _ _ _ c.loop-k.auto.k-end c.loop-k-test.false c.loop-k.invariant.term in
    record {
      value = sum_i-more _ _ c.add-value.ensures c.loop-i.invariant.value term;
      slopes = live-row-done a.n a.q (side_at a.x) c.loop-i.i _ _ c.loop-j.invariant.found c.loop-j-test.false
          c.loop-j.invariant.slopes;
    }

pub returns : goal.returns
unfolding equation_over slope_row slope_over
returns c =
    let l = c.loop-i in
    let all = c.loop-i-test.false in
    (sum_i-done _ l.auto.i-end all l.invariant.value, row_done _ _ l.auto.i-end all l.invariant.slopes)
