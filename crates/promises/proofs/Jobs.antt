-- An accepted job gives a system, and its solutions are the system's zeros.
use mathlib.Core.Path.{◌≡◌, refl, ◌∙◌}
use mathlib.Core.List.{List, [], ◌∷◌}
use mathlib.Core.Logic.{◌↔◌}
use Prim.Native.Nat.{ℕ, ◌-◌}
use lib.IntN.{ℤ, pos, ◌-ℤ◌, ◌*ℤ◌, zero-*ℤ}
use lib.Signed.{◌<ℤ◌}
use Rattle.sizes.specs.Sizes.{degree_max}
use Rattle.integers.specs.Sums.{sum_to}
use Rattle.integers.proofs.Parts.{zorder}
use Rattle.integers.proofs.Linear.{zlin}
use Rattle.integers.proofs.Order.{cancel-r}
use Rattle.integers.proofs.Ring.{lit, ◌⊖◌, ◌⊗◌, ring}
use Rattle.intervals.specs.Places.{side_at, number_at}
use Rattle.intervals.specs.declared.Interval.{Interval}
use Rattle.checks.specs.Accepted.{Accepted}
use Rattle.slopes.specs.Fractions.{units_of}
use Rattle.systems.specs.Kinds.{pinned, row_of, equation_of}
use Rattle.systems.specs.Formulas.{linear_num, coordinate, eigen_num, formula_num}
use Rattle.slopes.proofs.Factors.{power_pos, units-pos}
use Rattle.intervals.specs.Interval.{mark}
use Rattle.systems.proofs.Formulas.{equation-is}
use Rattle.step.specs.Values.{start_of, inverse_of}
use Rattle.step.proofs.Given.{start-in}
use Rattle.jobs.specs.declared.Kind.{Kind}
use Rattle.jobs.specs.declared.Job.{Job}
use Rattle.runs.proofs.Left.{job-degrees}
use Rattle.promises.specs.Claims.{Point, Zero, Ordered, System}
use Rattle.promises.specs.Jobs.{Solves, SolvesLinear, Eigenpair}

module _ (j : Job) (a : Accepted j) where
  pub start-order : Ordered j.head.n (side_at (start_of j))
  start-order k l = ((start-in a).each k l).order

  -- from the box x on
  abbrev pub system_from : (x : List Interval) → Ordered j.head.n (side_at x) → System
  system_from x order = record {
    n = j.head.n;
    room = a.few;
    equations = equation_of j;
    degrees = job-degrees j a;
    inverse = inverse_of j;
    start = x;
    order = order;
  }

  abbrev pub system_of : System
  system_of = system_from (start_of j) start-order

  pub solves-zero : {p : Point} → Solves j p → Zero j.head.n (equation_of j) p
  solves-zero {p} s = record { each = λ i l. equation-is j a.few a.pin i l p.num p.den ∙ s.each i l }

-- ---- a formula is 0 exactly where its two sides are equal
no_difference : (x y : ℤ) {w : ℤ} → pos 0 <ℤ w → ((x -ℤ y) *ℤ w ≡ pos 0) ↔ (x ≡ y)
no_difference x y {w} p = (apart, meet)
  where
    apart : (x -ℤ y) *ℤ w ≡ pos 0 → x ≡ y
    apart e =
        let z = zero-*ℤ w in
        let low = cancel-r (x -ℤ y) (pos 0) w p (omega zorder) in
        let high = cancel-r (pos 0) (x -ℤ y) w p (omega zorder) in
        omega (zorder, simp zlin at low, simp zlin at high)

    meet : x ≡ y → (x -ℤ y) *ℤ w ≡ pos 0
    meet e = rw e (ring (y ∷ w ∷ []) (λ y w. (y ⊖ y) ⊗ w) (λ y w. lit (pos 0)) refl)

module _ (j : Job) {p : Point} (den : pos 0 <ℤ p.den) where
  pub linear-zeros : j.head.kind ≡ Kind.Linear → Solves j p ↔ SolvesLinear j p
  unfolding formula_num linear_num
  linear-zeros e = (
    λ s. record { each = λ i l. (both i).0 (rw e at (s.each i l)) },
    λ s. record { each = λ i l. rw e ((both i).1 (s.each i l)) },
  )
    where
      both : (i : ℕ) → (linear_num j.head.n (row_of j i) (number_at j.system.right i) p.num p.den ≡ pos 0)
          ↔ (sum_to j.head.n (λ k. row_of j i k *ℤ p.num k) ≡ number_at j.system.right i *ℤ units_of p.den)
      both i = unfold linear_num in (no_difference _ _ (power_pos (degree_max - 1) (units-pos den)))

  pub eigen-zeros : j.head.kind ≡ Kind.Eigen → Solves j p ↔ Eigenpair j p
  unfolding formula_num eigen_num
  eigen-zeros e = (
    λ s. record { each = λ i l. (both i).0 (rw e at (s.each i l)) },
    λ s. record { each = λ i l. rw e ((both i).1 (s.each i l)) },
  )
    where
      x : ℕ → ℤ
      x = coordinate (pinned j) p.num p.den

      both : (i : ℕ) → (eigen_num j.head.n (pinned j) (row_of j i) i p.num p.den ≡ pos 0)
          ↔ (sum_to j.head.n (λ k. row_of j i k *ℤ x k) *ℤ units_of p.den ≡ pos mark *ℤ (p.num (pinned j) *ℤ x i))
      both i = unfold eigen_num in (no_difference _ _ (power_pos (degree_max - 2) (units-pos den)))
