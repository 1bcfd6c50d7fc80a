-- One call of halving: what it asks of the calls that it makes, and what is listed behind them.
use Prim.Native.Nat.{ℕ, ◌-◌, ◌*◌, ◌+◌, ◌^◌, ◌≤◌}
use native.Mathlib.Omega.{arith}
use mathlib.Core.Path.{◌≡◌, sym, ap, fun_ext, ◌∙◌}
use mathlib.Core.Bool.{true, false}
use mathlib.Core.List.{List}
use lib.IntN.{ℤ, pos}
use lib.ListN.{length, replicate}
use Rattle.sizes.specs.Sizes.{n_max}
use Rattle.lists.specs.Loops.{tab}
use Rattle.intervals.specs.Places.{entry_at, side_at}
use Rattle.intervals.specs.declared.Interval.{Interval}
use Rattle.jobs.specs.Places.{equation_at, row_at}
use Rattle.jobs.specs.declared.Equation.{Equation}
use Rattle.jobs.specs.declared.Job.{Job}
use Rattle.checks.specs.Checks.{check_job}
use Rattle.slopes.specs.Ranges.{BoxIn}
use Rattle.systems.specs.Kinds.{equations_of}
use Rattle.run.specs.declared.Outcome.{Outcome}
use Rattle.run.proofs.JobLaws.{run-made}
use Rattle.edges.specs.Edges.{low_half, high_half}
use Rattle.edges.proofs.Halves.{low-in, high-in, low-length, high-length}
use Rattle.runs.proofs.Runs.{run_length}
use Rattle.runs.proofs.Left.{step_left}
use Rattle.halving.specs.declared.Part.{Part}
use Rattle.halving.specs.declared.Returned.{Returned}
use Rattle.halving.specs.declared.Shared.{Shared}
use Rattle.halving.specs.Boxes.{listed_as, boxes_by, boxes_from}
use Rattle.halving.specs.Parts.{run_by, ran_as}
use Rattle.halving.specs.Lists.{listed_places, Lists, ListsIn}
use Rattle.halving.proofs.Parts.{boxes-dropped, boxes-unique, boxes-open, cut_left, boxes-cut, boxes-few}
use Rattle.halving.proofs.Lists.{lists-none, lists-append, lists_length, high-room}
use Rattle.std.specs.Prelude.{Ok}

module _ {s : Shared} {x : List Interval} {depth room first : ℕ} (asked : ListsIn s x depth room first) {r : Returned}
    (made : r ≡ ran_as (run_by s x) s.n depth) where
  abbrev n : ℕ
  n = s.n

  abbrev run : List Interval → Outcome
  run = run_by s

  part-is : {p : Part} → r.part ≡ p → (ran_as (run x) n depth).part ≡ p
  part-is e = sym (ap (λ (r : Returned). r.part) made) ∙ e

  sides-are : r.sides ≡ (run x).sides
  sides-are = ap (λ (r : Returned). r.sides) made

  -- ---- the halves
  pub returned-in : BoxIn n (side_at r.sides)
  returned-in = rw sides-are (step_left x asked.step s.steps)

  returned-length : length r.sides ≡ n_max
  returned-length = rw sides-are (run_length n (equation_at s.eqs) (entry_at s.c) s.steps 0 x asked.size)

  -- a half with its own depth and room
  half-asked : (half : List Interval) {deep rest at : ℕ} → BoxIn n (side_at half) → length half ≡ n_max
      → listed_places * (at + 2 ^ deep) ≤ rest → ListsIn s half deep rest at
  half-asked half box size enough = record {
    step = record { system = asked.step.system; inverse = asked.step.inverse; box = box };
    some = asked.some;
    size = size;
    enough = enough;
  }

  pub low-asked : {half : List Interval} {deep rest at : ℕ} → half ≡ low_half n r.sides
      → listed_places * (at + 2 ^ deep) ≤ rest → ListsIn s half deep rest at
  low-asked {half} e =
      half-asked half (rw e (low-in r.sides asked.some returned-length returned-in))
      (rw e (low-length n r.sides returned-length))

  pub high-asked : {half : List Interval} {deep rest at : ℕ} → half ≡ high_half n r.sides
      → listed_places * (at + 2 ^ deep) ≤ rest → ListsIn s half deep rest at
  high-asked {half} e =
      half-asked half (rw e (high-in r.sides asked.some returned-length returned-in))
      (rw e (high-length n r.sides returned-length))

  pub depth-left : r.part ≡ Part.Cut → 1 ≤ depth
  depth-left e = cut_left run n x depth (part-is e)

  -- ---- what is listed
  pub listed-none : (old : List ℤ) (at : ℕ) → r.part ≡ Part.Dropped → Lists n old old at at (boxes_by run n depth x)
  listed-none old at e = lists-none n old at (boxes-dropped run n x depth (part-is e))

  module _ {old new : List ℤ} {at q : ℕ} where
    pub listed-unique : r.part ≡ Part.Unique → Lists n old new at q (listed_as true r.sides)
        → Lists n old new at q (boxes_by run n depth x)
    listed-unique e h = rw (boxes-unique run n x depth (part-is e), ← sides-are) h

    pub listed-open : r.part ≡ Part.Open → Lists n old new at q (listed_as false r.sides)
        → Lists n old new at q (boxes_by run n depth x)
    listed-open e h = rw (boxes-open run n x depth (part-is e), ← sides-are) h

    pub listed-cut : {next : ℕ} {mid : List ℤ} {low high : List Interval} → r.part ≡ Part.Cut
        → low ≡ low_half n r.sides → high ≡ high_half n r.sides
        → Lists n old mid at next (boxes_by run n (depth - 1) low)
        → Lists n mid new next q (boxes_by run n (depth - 1) high)
        → Lists n old new at q (boxes_by run n depth x)
    listed-cut e l h p q =
        lists-append n (boxes-cut run n x depth (part-is e)) (rw (l, sides-are) at p) (rw (h, sides-are) at q)

-- the room that is left behind the boxes of the low half
pub room-behind : (run : List Interval → Outcome) (low : List Interval) (depth : ℕ) {n at next : ℕ} {old mid : List ℤ}
    → 1 ≤ depth → listed_places * (at + 2 ^ depth) ≤ length old
    → Lists n old mid at next (boxes_by run n (depth - 1) low)
    → listed_places * (next + 2 ^ (depth - 1)) ≤ length mid
room-behind run low depth {n} {at} {next} l room h =
    rw (lists_length n h)
    (high-room at next depth _ l (omega (arith, h.next, boxes-few run n (depth - 1) low)) room)

-- what is made of a job
abbrev pub shared_of : Job → List Equation → List (List ℤ) → Shared
shared_of j eqs c = record { eqs = eqs; c = c; n = j.head.n; steps = j.steps }

-- lists the boxes of the job
pub job-boxes : (j : Job) → check_job j ≡ Ok tt → {eqs : List Equation} {c : List (List ℤ)}
    → eqs ≡ equations_of j → c ≡ tab n_max j.head.n (replicate n_max (pos 0)) (row_at j.inv) → (depth : ℕ)
    → (x : List Interval) → boxes_by (run_by (shared_of j eqs c)) j.head.n depth x ≡ boxes_from j depth x
job-boxes j checked made-eqs made-c depth x =
    ap (λ (run : List Interval → Outcome). boxes_by run j.head.n depth x)
    (fun_ext (λ y. run-made j checked made-eqs made-c y j.steps))
