-- The words of demands 2 and 3: "A claim about fractions is proved as the claim about whole numbers that is left when
-- every denominator is multiplied out, the 65,536s and the edge widths included." Throughout n is the
-- number of unknowns, q the equations and C the proposed inverse.
use Rattle.std.specs.Prelude.{◌≡◌, List, ℕ, ◌+◌, ◌≤◌, ◌<◌, ℤ, pos, ◌-ℤ◌, ◌*ℤ◌, ◌≤ℤ◌, ◌<ℤ◌}
use Rattle.sizes.specs.Sizes.{n_max}
use Rattle.integers.specs.Absolute.{abs_ℤ}
use Rattle.intervals.specs.Places.{side_at}
use Rattle.slopes.specs.Fractions.{InBox, DegreesIn, equation_num}
use Rattle.step.specs.Step.{image_box}
use Rattle.step.specs.Newton.{newton_scale, newton_den, newton_num}
use Rattle.step.specs.Meanings.{Empty, Strictly, Unchanged}
use Rattle.run.specs.Run.{outcome, run_of}
pub use Rattle.runs.specs.Boxes.{Ordered, BoxInside}
use Rattle.intervals.specs.declared.Interval.{Interval}
use Rattle.jobs.specs.declared.Equation.{Equation}
use Rattle.jobs.specs.declared.Verdict.{Verdict}
use Rattle.run.specs.declared.Outcome.{Outcome}

-- "a whole number for each unknown over one whole denominator .., counted in marks" ("of at least 1": `Lies` asks it)
pub record Point : Type 0 where
  pub num : ℕ → ℤ
  pub den : ℤ

-- the point lies in the box: low end × den ≤ num ≤ high end × den for each unknown, and den is at least 1
abbrev pub Lies : ℕ → Point → List Interval → Type 0
Lies n p x = InBox n p.num p.den (side_at x)

-- the same point: p k / p den = r k / r den for each unknown k
pub record Same (n : ℕ) (p r : Point) : Type 0 where
  pub each : (k : ℕ) → k < n → p.num k *ℤ r.den ≡ r.num k *ℤ p.den

-- every equation's exact value at the point is 0
pub record Zero (n : ℕ) (q : ℕ → Equation) (p : Point) : Type 0 where
  pub each : (i : ℕ) → i < n → equation_num n (q i) p.num p.den ≡ pos 0

-- "The exact Newton image of a fraction point p is p - C f(p)": f(p) is `equation_num` of the equations, which are the
-- formulas of document 01 by `equation-is` (systems, proofs/Formulas)
abbrev pub newton_of : ℕ → (ℕ → Equation) → (ℕ → ℕ → ℤ) → Point → Point
newton_of n q C p = record { num = newton_num n q C p.num p.den; den = newton_den p.den }

-- ---- "their largest coordinate difference, each divided by that edge's width"
-- the difference in coordinate k, over p den × r den
unfoldable pub apart : Point → Point → ℕ → ℤ
apart p r k = abs_ℤ (p.num k *ℤ r.den -ℤ r.num k *ℤ p.den)

-- "that edge's width"
unfoldable pub width_of : (ℕ → Interval) → ℕ → ℤ
width_of X k = (X k).hi -ℤ (X k).lo

-- the width less 2 marks
abbrev pub inner_of : (ℕ → Interval) → ℕ → ℤ
inner_of X k = width_of X k -ℤ pos 2

-- a place below n where u k / w k is largest
pub record Largest (n : ℕ) (u w : ℕ → ℤ) : Type 0 where
  pub place : ℕ
  pub live : place < n
  pub most : (k : ℕ) → k < n → (u k *ℤ w place) ≤ℤ (u place *ℤ w k)

module _ (n : ℕ) (q : ℕ → Equation) (C : ℕ → ℕ → ℤ) (x : List Interval) (p r : Point) where
  -- |Np i - Nr i| / width i < |p f - r f| / width f, with Np and Nr the images of p and r and every denominator
  -- multiplied out
  abbrev pub CloserAt : ℕ → ℕ → Type 0
  CloserAt f i =
      ((apart (newton_of n q C p) (newton_of n q C r) i *ℤ width_of (side_at x) f) *ℤ (p.den *ℤ r.den))
      <ℤ ((apart p r f *ℤ width_of (side_at x) i) *ℤ ((newton_of n q C p).den *ℤ (newton_of n q C r).den))

  -- "gets strictly smaller": where the points p and r differ most in widths of x, their difference is larger than that
  -- of their images in every coordinate i
  pub record Closer : Type 0 where
    pub farthest : Largest n (apart p r) (width_of (side_at x))
    pub smaller : (i : ℕ) → i < n → CloserAt farthest.place i

-- the same in whole numbers and sharper, for points P and R over one denominator d: where they are at most u / v widths
-- apart in each coordinate, their images are at most u / v of the widths less 2 marks apart
pub record Sharper (n : ℕ) (q : ℕ → Equation) (C : ℕ → ℕ → ℤ) (X : ℕ → Interval) : Type 0 where
  pub within : (P R : ℕ → ℤ) (d u v : ℤ) → pos 0 ≤ℤ u → pos 0 ≤ℤ v → InBox n P d X → InBox n R d X
      → ((k : ℕ) → k < n → (abs_ℤ (P k -ℤ R k) *ℤ v) ≤ℤ (u *ℤ width_of X k))
      → (i : ℕ) → i < n
      → (abs_ℤ (newton_num n q C P d i -ℤ newton_num n q C R d i) *ℤ v) ≤ℤ (u *ℤ (inner_of X i *ℤ newton_scale d))

-- ---- the run
-- n equations of degree 3 at most, a proposed inverse and a starting box: what the run takes from an accepted job
pub record System : Type 0 where
  pub n : ℕ
  pub room : n ≤ n_max
  pub equations : ℕ → Equation
  pub degrees : (i : ℕ) → i < n → DegreesIn n (equations i)
  pub inverse : ℕ → ℕ → ℤ
  pub start : List Interval
  pub order : Ordered n (side_at start)

-- the run with an allowance
abbrev pub run_with : System → ℕ → Outcome
run_with s allowance = run_of s.n s.equations s.inverse allowance 0 s.start

-- the run with allowance t decides nothing and leaves the box x: step t + 1 begins on x
abbrev pub Begins : (ℕ → Outcome) → ℕ → List Interval → Type 0
Begins run t x = run t ≡ outcome Verdict.Spent t x

-- one of the first a steps begins on a box of which P holds
pub record Reaches (run : ℕ → Outcome) (a : ℕ) (P : List Interval → Type 0) : Type 0 where
  pub t : ℕ
  pub x : List Interval
  pub within : t < a
  pub begins : Begins run t x
  pub holds : P x

module _ (n : ℕ) (q : ℕ → Equation) (C : ℕ → ℕ → ℤ) (x : List Interval) where
  -- "an empty intersection", of the box x and its image
  abbrev pub EmptyOn : Type 0
  EmptyOn = Empty n (side_at x) (side_at (image_box n q C x))

  -- "the image lies strictly inside" x
  abbrev pub StrictlyOn : Type 0
  StrictlyOn = Strictly n (side_at x) (side_at (image_box n q C x))

  -- the image cut with x is x itself
  abbrev pub UnchangedOn : Type 0
  UnchangedOn = Unchanged n (side_at x) (side_at (image_box n q C x))

-- an answer "unique", of a run that is told for each allowance: the deciding step and the box it began on
pub record UniqueStep (n : ℕ) (q : ℕ → Equation) (C : ℕ → ℕ → ℤ) (run : ℕ → Outcome) (answer : Outcome) : Type 0 where
  pub t : ℕ
  pub x : List Interval
  pub begins : Begins run t x
  pub says : answer ≡ outcome Verdict.Unique (t + 1) (image_box n q C x)
  pub strictly : StrictlyOn n q C x
  pub edges : (k : ℕ) → k < n → pos 2 ≤ℤ width_of (side_at x) k
  pub closer : (p r : Point) → Lies n p x → Lies n r x → (Same n p r → ⊥) → Closer n q C x p r
  pub sharper : Sharper n q C (side_at x)
