-- What an accepted job gives a step: its equations, its inverse and a box in range are what a step takes, and the
-- code's lists of them make the job's own image.
use mathlib.Core.Path.{◌≡◌, refl, sym, ap, ap₂, ◌∙◌}
use mathlib.Core.List.{List, []}
use Prim.Native.Nat.{ℕ, ◌≤◌, ◌<◌}
use lib.IntN.{ℤ, pos}
use lib.ListN.{replicate}
use Rattle.sizes.specs.Sizes.{n_max, end_max}
use Rattle.lists.specs.Loops.{tab}
use Rattle.lists.proofs.Tab.{get_or-tab, tab-cong}
use Rattle.intervals.specs.Interval.{zero_i, point_i}
use Rattle.intervals.specs.Places.{number_at, entry_at, side_at, vector_of}
use Rattle.intervals.specs.Ranges.{InI}
use Rattle.intervals.proofs.Places.{side-made}
use Rattle.jobs.specs.Places.{row_at, equation_at}
use Rattle.checks.specs.Checks.{check_job}
use Rattle.checks.specs.Accepted.{GoodEquation, GoodSystem, Accepted}
use Rattle.checks.proofs.AcceptedLaws.{check_done}
use Rattle.slopes.specs.Terms.{equation_over, slope_over}
use Rattle.systems.specs.Kinds.{equation_of, equations_of}
use Rattle.slopes.specs.Ranges.{BoxIn, EquationIn}
use Rattle.systems.specs.Parts.{PartsIn, JobIn}
use Rattle.systems.proofs.Systems.{equations-at, equations-in}
use Rattle.matrices.proofs.Live.{d-cong, b-cong, e-cong}
use Rattle.intervals.specs.declared.Interval.{Interval}
use Rattle.jobs.specs.declared.Kind.{Kind}
use Rattle.jobs.specs.declared.Ends.{Ends}
use Rattle.jobs.specs.declared.Equation.{Equation}
use Rattle.jobs.specs.declared.Job.{Job}
use Rattle.step.specs.Step.{middle_of, slope_of, image_of, image_box}
use Rattle.step.specs.Values.{side_of, box_of, ends_of, start_of, inverse_of}
use Rattle.step.specs.Ranges.{StepIn}
use Rattle.step.proofs.Live.{sum_of}
use Rattle.std.specs.Prelude.{Ok}

equation-in : (n : ℕ) (q : Equation) → GoodEquation q n → EquationIn n q
equation-in n q g = record { count = g.few; each = λ t l. record { coef = g.size t l; deg = g.deg t l } }

-- the sides of a box of values, and its range
pub box-at : (n : ℕ) → n ≤ n_max → (e : Ends) (k : ℕ) → k < n → side_at (box_of n e) k ≡ side_of e k
unfolding box_of
box-at n room e k l = side-made n room (side_of e) refl k l

pub box_in_lem : (n : ℕ) (room : n ≤ n_max) (e : Ends) → ((k : ℕ) → k < n → InI end_max (side_of e k))
    → BoxIn n (side_at (box_of n e))
box_in_lem n room e h = record { places = room; each = λ k l. rw (box-at n room e k l) (h k l) }

-- and of a box of sides, as values
abbrev interval : ℤ → ℤ → Interval
interval a b = record { lo = a; hi = b }

pub ends_at : (n : ℕ) → n ≤ n_max → (x : List Interval) (k : ℕ) → k < n → side_of (ends_of n x) k ≡ side_at x k
ends_at n room x k l =
    ap₂ interval (get_or-tab (pos 0) n_max n (λ k. (side_at x k).lo) (pos 0) k l room)
    (get_or-tab (pos 0) n_max n (λ k. (side_at x k).hi) (pos 0) k l room)

pub box-back : (n : ℕ) → n ≤ n_max → (f : ℕ → Interval) {x : List Interval} → x ≡ vector_of n f
    → box_of n (ends_of n x) ≡ x
unfolding box_of
box-back n room f {x} e =
    tab-cong zero_i n_max n _ _ (λ k l. ends_at n room x k l ∙ side-made n room f e k l) ∙ sym e

module _ {j : Job} (a : Accepted j) where
  pub job-in : JobIn j
  job-in = record { some = a.some; places = a.few; pin = a.pin; parts = by j.head.kind a.system }
    where
      by : (k : Kind) → ((i : ℕ) → i < j.head.n → GoodSystem k j i) → PartsIn k j
      by Kind.Poly g = record { each = λ i l. equation-in j.head.n (equation_at j.system.eqs i) (g i l) }
      by Kind.Linear g =
          (λ i l. record { places = a.few; each = (g i l).0 }, record { places = a.few; each = λ i l. (g i l).1 })
      by Kind.Eigen g = λ i l. record { places = a.few; each = g i l }

  pub start-in : BoxIn j.head.n (side_at (start_of j))
  start-in = box_in_lem j.head.n a.few j.ends
      (λ k l. record { order = a.ordered k l; low = a.low k l; high = a.high k l })

-- only the live equations and entries of the inverse count
module _ (n : ℕ) {q r : ℕ → Equation} {C D : ℕ → ℕ → ℤ}
    (equations : (i : ℕ) → i < n → q i ≡ r i) (entries : (i k : ℕ) → i < n → k < n → C i k ≡ D i k) where
  image-cong : (X : ℕ → Interval) (i : ℕ) → i < n → image_of n q C X i ≡ image_of n r D X i
  unfolding image_of
  image-cong X i l =
      sum_of refl (d-cong n C D i (λ k m. entries i k l m)
      (λ k m. ap (λ e. equation_over n e (λ k. point_i (middle_of X k))) (equations k m)))
      (e-cong n _ _ i
      (λ k m. b-cong n C D i (λ k m. entries i k l m) (slope_of n q C X) (slope_of n r D X) k
      (λ t u. ap (λ e. slope_over n e k X) (equations t u)))
      (λ k _. refl))

  pub box-cong : (x : List Interval) → image_box n q C x ≡ image_box n r D x
  unfolding image_box
  box-cong x = tab-cong zero_i n_max n _ _ (image-cong (side_at x))

-- the code's lists of an accepted job
module _ (j : Job) (done : check_job j ≡ Ok tt) {eqs : List Equation} {c : List (List ℤ)}
    (made-eqs : eqs ≡ equations_of j)
    (made-c : c ≡ tab n_max j.head.n (replicate n_max (pos 0)) (row_at j.inv)) where
  entry-at : (i k : ℕ) → i < j.head.n → entry_at c i k ≡ inverse_of j i k
  entry-at i k l =
      let row = get_or-tab (replicate n_max (pos 0)) n_max j.head.n (row_at j.inv) [] i l (check_done j done).few in
      rw made-c (ap (λ (row : List ℤ). number_at row k) row)

  pub step_in : (x : List Interval) → BoxIn j.head.n (side_at x)
      → StepIn j.head.n (equation_at eqs) (entry_at c) (side_at x)
  step_in x box = record {
    system = rw made-eqs (equations-in (job-in (check_done j done)));
    inverse = record { each = λ i k l m. rw (entry-at i k l) ((check_done j done).inverse i l k m) };
    box = box;
  }

  pub image-made : (x : List Interval) → image_box j.head.n (equation_at eqs) (entry_at c) x
      ≡ image_box j.head.n (equation_of j) (inverse_of j) x
  image-made =
      box-cong j.head.n (λ i l. rw made-eqs (equations-at j (check_done j done).few i l))
      (λ i k l _. entry-at i k l)
