-- The equations of a job: one case for each kind, and all of them in range.
use mathlib.Core.Path.{◌≡◌, refl, sym, ap, subst}
use Prim.Native.Nat.{ℕ, ◌+◌, ◌<◌, ◌≤◌}
use native.Mathlib.Decide.{dec_lt}
use native.Mathlib.Omega.{arith}
use lib.IntN.{ℤ, pos}
use Rattle.sizes.specs.Sizes.{n_max, entry_max}
use Rattle.integers.specs.Ranges.{Within}
use Rattle.integers.proofs.Ranges.{within-neg, within-lit}
use Rattle.lists.specs.Loops.{tab}
use Rattle.lists.proofs.Tab.{get_or-tab, tab-cong}
use Rattle.intervals.specs.Interval.{mark}
use Rattle.jobs.specs.Places.{no_equation, equation_at}
use Rattle.jobs.specs.Zero.{zero_equation}
use Rattle.intervals.specs.Places.{number_at}
use Rattle.checks.specs.Accepted.{GoodPin}
use Rattle.jobs.specs.declared.Kind.{Kind}
use Rattle.jobs.specs.declared.Job.{Job}
use Rattle.slopes.specs.Terms.{coef_of}
use Rattle.systems.specs.Kinds.{unit_e, eigen_e, row_coef, build, linear_equation, eigen_equation}
use Rattle.systems.specs.Kinds.{row_of, pinned, equation_by, equation_of, equations_of}
use Rattle.slopes.specs.Ranges.{EquationIn, SystemIn}
use Rattle.systems.specs.Parts.{EntriesIn, PartsIn, JobIn}
use Rattle.slopes.specs.Fractions.{DegreesIn}
use Rattle.systems.proofs.Exponents.{row-entry, row_last}
use Rattle.systems.proofs.Formulas.{built-coef, linear-exact, eigen-exact, pinned-below}

module _ (j : Job) {k : Kind} (e : j.head.kind ≡ k) where
  pub equation-by : (i : ℕ) → equation_of j i ≡ equation_by k j i
  unfolding equation_of
  equation-by i = ap (λ k. equation_by k j i) e

  pub equations-by : tab n_max j.head.n zero_equation (equation_by k j) ≡ equations_of j
  equations-by = tab-cong zero_equation n_max j.head.n _ _ (λ i l. sym (equation-by i))

  pub pin-by : JobIn j → GoodPin k j.head.n j.head.pin
  pin-by h = subst (λ k. GoodPin k j.head.n j.head.pin) e h.pin

  pub parts-by : JobIn j → PartsIn k j
  parts-by h = subst (λ k. PartsIn k j) e h.parts

-- a row's coefficients are its entries and minus its right side; the degrees are known from the formulas
built_in : {n : ℕ} {a : ℕ → ℤ} {b : ℤ} (e : ℕ → ℕ → ℕ) → EntriesIn n a → Within b entry_max
    → DegreesIn n (build n (row_coef n a b) e) → EquationIn n (build n (row_coef n a b) e)
built_in {n} {a} {b} e row right degrees = record {
  count = omega (arith, row.places);
  each = λ t l. record { coef = coef t l; deg = degrees.each t l };
}
  where
    coefs : (t : ℕ) → Within (row_coef n a b t) entry_max
    coefs t = by (dec_lt t n)
      where
        by : Dec (t < n) → Within (row_coef n a b t) entry_max
        by (yes l) = rw (row-entry n a b t l) (row.each t l)
        by (no l) = rw (row_last n a b t (omega arith)) (within-neg right)

    coef : (t : ℕ) → t < n + 1 → Within (coef_of (build n (row_coef n a b) e) t) entry_max
    coef t l = rw (built-coef n row.places a b e t l) (coefs t)

-- an accepted job's equations are in range
pub system-in : {j : Job} → JobIn j → SystemIn j.head.n (equation_of j)
system-in {j} h = record { each = λ i l. by j.head.kind refl i l }
  where
    by : (k : Kind) → j.head.kind ≡ k → (i : ℕ) → i < j.head.n → EquationIn j.head.n (equation_of j i)
    by Kind.Poly e i l = rw (equation-by j e i) ((parts-by j e h).each i l)
    by Kind.Linear e i l = rw (equation-by j e i) (linear (parts-by j e h))
      where
        linear : PartsIn Kind.Linear j → EquationIn j.head.n (equation_by Kind.Linear j i)
        linear p =
            let d = linear-exact j.head.n h.places (row_of j i) (number_at j.system.right i) in
            unfold linear_equation in
            (built_in unit_e (p.0 i l) (p.1.each i l) (record { each = λ t u. omega (arith, d.deg t u) }))
    by Kind.Eigen e i l = rw (equation-by j e i) (eigen (pin-by j e h) (parts-by j e h))
      where
        eigen : GoodPin Kind.Eigen j.head.n j.head.pin → PartsIn Kind.Eigen j
            → EquationIn j.head.n (equation_by Kind.Eigen j i)
        eigen g p =
            let d = eigen-exact j.head.n (pinned j) h.places (pinned-below j g) (row_of j i) i l in
            unfold eigen_equation in
            (built_in (eigen_e j.head.n (pinned j) i) (p i l) (within-lit (pos mark) entry_max tt)
            (record { each = λ t u. omega (arith, d.deg t u) }))

-- what `equations` returns, read by its places
pub equations-at : (j : Job) → j.head.n ≤ n_max → (i : ℕ)
    → i < j.head.n → equation_at (equations_of j) i ≡ equation_of j i
equations-at j room i l = get_or-tab zero_equation n_max j.head.n (equation_of j) no_equation i l room

pub equations-in : {j : Job} → JobIn j → SystemIn j.head.n (equation_at (equations_of j))
equations-in {j} h = record { each = λ i l. rw (equations-at j h.places i l) ((system-in h).each i l) }
