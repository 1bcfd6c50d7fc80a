-- Document 01's marked example T12 and an eigenpair of one equation, computed from the definitions.
use mathlib.Core.Path.{◌≡◌, refl}
use mathlib.Core.List.{List, [], ◌∷◌}
use Prim.Native.Nat.{ℕ, ◌-◌}
use lib.IntN.{ℤ, pos, ◌-ℤ◌, ◌*ℤ◌}
use lib.ListN.{get_or}
use Rattle.sizes.specs.Sizes.{degree_max}
use Rattle.lists.specs.Loops.{tab, carry}
use Rattle.integers.specs.Sums.{sum_to}
use Rattle.integers.proofs.Ring.{neg, lit, ◌⊕◌, ◌⊖◌, ◌⊗◌, ring}
use Rattle.intervals.specs.Interval.{mark}
use Rattle.term_checks.specs.Terms.{degree}
use Rattle.jobs.specs.declared.Kind.{Kind}
use Rattle.jobs.specs.declared.Row.{Row}
use Rattle.jobs.specs.declared.Job.{Job}
use Rattle.slopes.specs.Fractions.{units_of, power, term_num, equation_num}
use Rattle.systems.specs.Kinds.{unit_e, vector_e, eigen_equation, equation_of}

abbrev eigen_job : ℕ → ℕ → List Row → Job
eigen_job n pin rows = record {
  head = record { number = 0; kind = Kind.Eigen; n = n; pin = pin };
  ends = record { lo = []; hi = [] };
  inv = [];
  steps = 0;
  system = record { eqs = []; rows = rows; right = [] };
}

-- "eigen, rows 65536,65536 and 0,131072", with a pin
abbrev job12 : ℕ → Job
job12 pin = eigen_job 2 pin (record { at = pos 65536 ∷ pos 65536 ∷ [] } ∷ record { at = pos 0 ∷ pos 131072 ∷ [] } ∷ [])

-- "the point (65536,131072)", over 1
abbrev point12 : ℕ → ℤ
point12 k = get_or (pos 65536 ∷ pos 131072 ∷ []) k (pos 0)

-- "both equations are 0"
pub t12 : (equation_num 2 (equation_of (job12 2) 0) point12 (pos 1) ≡ pos 0)
    × (equation_num 2 (equation_of (job12 2) 1) point12 (pos 1) ≡ pos 0)
unfolding equation_num equation_of eigen_equation vector_e unit_e term_num degree power sum_to tab carry
t12 = (refl, refl)

-- document 02, P2: its eigenvector (1, 0), whose last coordinate is zero, with the first pinned: L is 1.0
abbrev flat12 : ℕ → ℤ
flat12 k = get_or (pos 65536 ∷ pos 0 ∷ []) k (pos 0)

pub t12-flat : (equation_num 2 (equation_of (job12 1) 0) flat12 (pos 1) ≡ pos 0)
    × (equation_num 2 (equation_of (job12 1) 1) flat12 (pos 1) ≡ pos 0)
unfolding equation_num equation_of eigen_equation vector_e unit_e term_num degree power sum_to tab carry
t12-flat = (refl, refl)

-- one equation: a(1,1) - L, where L in marks is 65,536 times unknown 1
pub one-eigen : (a : ℤ) (P : ℕ → ℤ) (d : ℤ)
    → equation_num 1 (equation_of (eigen_job 1 1 (record { at = a ∷ [] } ∷ [])) 0) P d
    ≡ (a *ℤ units_of d -ℤ pos mark *ℤ P 0) *ℤ power (units_of d) (degree_max - 1)
unfolding equation_num equation_of eigen_equation vector_e unit_e term_num degree power sum_to tab carry
one-eigen a P d =
    ring (a ∷ P 0 ∷ units_of d ∷ pos mark ∷ [])
    (λ a p u m. lit (pos 0) ⊕ (a ⊗ lit (pos 1)) ⊗ (((lit (pos 1) ⊗ u) ⊗ u) ⊗ u)
    ⊕ (neg m ⊗ (lit (pos 1) ⊗ p)) ⊗ ((lit (pos 1) ⊗ u) ⊗ u))
    (λ a p u m. (a ⊗ u ⊖ m ⊗ p) ⊗ ((lit (pos 1) ⊗ u) ⊗ u)) refl
