-- Document 01, "Marked examples T1 to T12": "T1 to T12 are proved as a single table under a single claim." Beside it
-- the examples of document 02's requests.
use Rattle.std.specs.Prelude.{◌≡◌, List, [], ◌∷◌, ℕ, ℤ, pos, Ok}
use Rattle.intervals.specs.declared.Interval.{Interval}
use Rattle.intervals.specs.Interval.{point_i, zero_i, mul_i, mid_i}
use Rattle.intervals.specs.Places.{number_at, side_at}
use Rattle.powers.specs.Powers.{power_i}
use Rattle.slopes.specs.Terms.{equation_over}
use Rattle.slopes.specs.Fractions.{equation_num}
use Rattle.systems.specs.Kinds.{equation_of}
use Rattle.step.specs.Step.{image_of}
use Rattle.step.specs.Values.{inverse_of, start_of}
use Rattle.run.specs.Run.{outcome}
use Rattle.run.specs.Job.{result_of, run_job}
use Rattle.jobs.specs.declared.Job.{Job}
use Rattle.jobs.specs.declared.Verdict.{Verdict}
use Rattle.jobs.specs.declared.Result.{Result}
use Rattle.faults.specs.Checked.{Checked}
use Rattle.examples.specs.Jobs.{minus, job41, job7, job9, job11, job12, job304}

-- what an example speaks of
pub data Thing : Type 0 where
  interval : Interval → Thing
  number : ℤ → Thing
  pair : Thing → Thing → Thing
  answer : Checked Result → Thing

pub record Example : Type 0 where
  pub computed : Thing
  pub told : Thing

abbrev pub from : ℤ → ℤ → Interval
from a b = record { lo = a; hi = b }

-- "[a,b] times [c,d] is [e,f]"
abbrev times : Interval → Interval → Interval → Example
times a b r = record { computed = Thing.interval (mul_i a b); told = Thing.interval r }

-- "[a,b] squared becomes [c,d]"
abbrev squared : Interval → Interval → Example
squared a r = record { computed = Thing.interval (power_i 2 a); told = Thing.interval r }

-- the answer of a job: verdict, steps and box
abbrev runs : Job → Verdict → ℕ → List Interval → Example
runs j v steps x = record {
  computed = Thing.answer (run_job j);
  told = Thing.answer (Ok (result_of j (outcome v steps x)));
}

-- K of a job of one unknown
abbrev image : Job → Thing
image j = Thing.interval (image_of j.head.n (equation_of j) (inverse_of j) (side_at (start_of j)) 0)

-- equation i of a job at a point p of whole marks: by the exact formulas,
abbrev value_at : Job → List ℤ → ℕ → Thing
value_at j p i = Thing.number (equation_num j.head.n (equation_of j i) (number_at p) (pos 1))

-- and as a step takes it, over the box [p, p]
abbrev value_over : Job → List ℤ → ℕ → Thing
value_over j p i = Thing.interval (equation_over j.head.n (equation_of j i) (λ k. point_i (number_at p k)))

-- "at the point .. both equations are" this
abbrev both_are : (ℕ → Thing) → Thing → Example
both_are value told = record { computed = Thing.pair (value 0) (value 1); told = Thing.pair told told }

abbrev point12 : List ℤ
point12 = pos 65536 ∷ pos 131072 ∷ []

abbrev pub table : List Example
table =
    -- T1 to T4
    times (from (minus 1) (pos 1)) (from (minus 1) (pos 1)) (from (minus 1) (pos 1))
    ∷ times (from (pos 3) (pos 3)) (from (pos 1) (pos 1)) (from (pos 0) (pos 1))
    ∷ times (from (minus 3) (minus 3)) (from (pos 1) (pos 1)) (from (minus 1) (pos 0))
    ∷ times (from (minus 65536) (pos 131072)) (from (minus 65536) (pos 131072)) (from (minus 131072) (pos 262144))
    -- T5
    ∷ record { computed = Thing.number (mid_i (from (minus 3) (pos 0))); told = Thing.number (minus 2) }
    -- T6, and job 41's whole result
    ∷ record { computed = image (job41 (pos 21845)); told = Thing.interval (from (pos 81919) (pos 103766)) }
    ∷ runs (job41 (pos 21845)) Verdict.Unique 1 (from (pos 81919) (pos 103766) ∷ [])
    -- T7 to T11
    ∷ runs (job7 8) Verdict.Stalled 2 (from (pos 0) (pos 0) ∷ [])
    ∷ runs (job7 1) Verdict.Spent 1 (from (pos 0) (pos 0) ∷ [])
    ∷ runs job9 Verdict.None 1 (from (pos 0) (pos 0) ∷ [])
    ∷ runs (job41 (pos 0)) Verdict.Stalled 1 (from (pos 65536) (pos 131072) ∷ [])
    ∷ runs job11 Verdict.Unique 1 (from (pos 32768) (pos 32768) ∷ from (pos 16384) (pos 16384) ∷ [])
    -- T12
    ∷ both_are (value_at job12 point12) (Thing.number (pos 0))
    ∷ both_are (value_over job12 point12) (Thing.interval zero_i)
    ∷ []

-- the examples of document 02's requests
abbrev pub requests : List Example
requests =
    -- P5: "[-1,1] marks squared becomes [0,1]"
    squared (from (minus 1) (pos 1)) (from (pos 0) (pos 1))
    -- and one of "our symmetric hinges", which stalled before
    ∷ runs job304 Verdict.Unique 9 (from (pos 19961) (pos 24637) ∷ from (pos 58670) (pos 64738) ∷ [])
    ∷ []

abbrev pub Holds : List Example → Type 0
Holds [] = Unit {0}
Holds (e ∷ es) = (e.computed ≡ e.told) × Holds es
