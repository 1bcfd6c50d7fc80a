-- Document 02, P8: "All closing positions." The boxes that halving lists.
use Rattle.std.specs.Prelude.{Bool, true, false, cond, List, [], ◌∷◌, ◌++◌, ◌⊎◌, ◌≡◌, ℕ, zero, suc}
use Rattle.intervals.specs.declared.Interval.{Interval}
use Rattle.jobs.specs.declared.Job.{Job}
use Rattle.jobs.specs.declared.Verdict.{Verdict}
use Rattle.edges.specs.Edges.{is_wide, low_half, high_half}
use Rattle.step.specs.Values.{start_of}
use Rattle.run.specs.declared.Outcome.{Outcome}
use Rattle.run.specs.Job.{run_from}

-- a listed box, as unique or as open
pub record Listed : Type 0 where
  pub unique : Bool
  pub sides : List Interval

abbrev pub listed_as : Bool → List Interval → List Listed
listed_as unique x = record { unique = unique; sides = x } ∷ []

-- "Run the job"; "The inverse and step allowance are the job's each time."
abbrev pub ran_from : Job → List Interval → Outcome
ran_from j x = run_from j x j.steps

-- "drop the box on none, list it on unique. On stalled or spent take the returned box": `taken` is what becomes of it
abbrev pub list_by : Verdict → List Interval → List Listed → List Listed
list_by Verdict.None x taken = []
list_by Verdict.Unique x taken = listed_as true x
list_by Verdict.Stalled x taken = taken
list_by Verdict.Spent x taken = taken

-- "If .. its widest edge .. is at least 2 marks, cut that edge .., and do the low half first ..; else list it as
-- open.": `half` is what a half gives
unfoldable pub cut_by : ℕ → List Interval → (List Interval → List Listed) → List Listed
cut_by n x half = cond (is_wide n x) (half (low_half n x) ++ half (high_half n x)) (listed_as false x)

-- "If depth is left", "with depth one less": what comes of a box of n unknowns, where `run` runs it
unfoldable pub boxes_by : (List Interval → Outcome) → ℕ → ℕ → List Interval → List Listed
boxes_by run n zero x = list_by (run x).verdict (run x).sides (listed_as false (run x).sides)
boxes_by run n (suc depth) x = list_by (run x).verdict (run x).sides (cut_by n (run x).sides (boxes_by run n depth))

abbrev pub boxes_from : Job → ℕ → List Interval → List Listed
boxes_from j depth x = boxes_by (ran_from j) j.head.n depth x

-- from the job's own starting box
unfoldable pub boxes_of : Job → ℕ → List Listed
boxes_of j depth = boxes_from j depth (start_of j)

-- b is one of the boxes
unfoldable pub Among : Listed → List Listed → Type 0
Among b [] = ⊥
Among b (c ∷ bs) = (b ≡ c) ⊎ Among b bs
