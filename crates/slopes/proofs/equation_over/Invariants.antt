-- equation_over: after i turns the value and the slopes of the first i terms. Within, after k turns the term over the
-- first k unknowns, with the places where one stands; after u turns the slopes of the first u of these; after w turns
-- within that, the lowered term up to place w of them.
use mathlib.Core.Path.{◌≡◌}
use mathlib.Core.List.{List}
use Prim.Native.Nat.{ℕ}
use lib.ListN.{length}
use Rattle.sizes.specs.Sizes.{n_max}
use Rattle.intervals.specs.declared.Interval.{Interval}
use Rattle.intervals.specs.Interval.{sum_i}
use Rattle.intervals.specs.Places.{side_at}
use Rattle.jobs.specs.declared.Equation.{Equation}
use Rattle.slopes.specs.Terms.{coef_of, exps_of, term_over, lowered, term_slope}
use Rattle.slopes.proofs.Live.{stop, LiveIn}
use Rattle.slopes.proofs.Rows.{totals, partly}
use Rattle.slopes.proofs.equation_over.Given as goal

-- the part of term t in slope k
abbrev pub parts : ℕ → Equation → List Interval → ℕ → ℕ → Interval
parts n q x k t = term_slope n (coef_of q t) (exps_of q t) k (side_at x)

abbrev pub invariant-loop-k : goal.invariant-loop-k
invariant-loop-k l = record {
  term : l.b ≡ term_over l.k (coef_of l.q l.i) (exps_of l.q l.i) (side_at l.m);
  long : length l.live ≡ n_max;
  found : LiveIn l.k (exps_of l.q l.i) l.live l.some;
}

abbrev pub invariant-loop-k-2 : goal.invariant-loop-k-2
invariant-loop-k-2 l =
    l.a ≡ term_over (stop l.n l.places (length l.places) l.k-index) (coef_of l.q l.i) (lowered l.j (exps_of l.q l.i))
    (side_at l.x)

abbrev pub invariant-loop-j : goal.invariant-loop-j
invariant-loop-j l = record {
  found : LiveIn l.n (exps_of l.q l.i) l.places (length l.places);
  slopes : l.slopes ≡ partly l.n (parts l.n l.q l.x) l.i (stop l.n l.places (length l.places) l.j-index);
}

abbrev pub invariant-loop-i : goal.invariant-loop-i
invariant-loop-i l = record {
  value : l.value ≡ sum_i l.i (λ t. term_over l.n (coef_of l.q t) (exps_of l.q t) (side_at l.m));
  slopes : l.slopes ≡ totals l.n (parts l.n l.q l.x) l.i;
}
