-- A job's values as a step takes them. A box is a list of low ends and one of high ends in a job, and a list of
-- intervals in a step.
use Rattle.std.specs.Prelude.{List, ℕ, ℤ, pos}
use Rattle.sizes.specs.Sizes.{n_max}
use Rattle.lists.specs.Loops.{tab}
use Rattle.intervals.specs.Places.{number_at, side_at, vector_of}
use Rattle.jobs.specs.Places.{row_at}
use Rattle.intervals.specs.declared.Interval.{Interval}
use Rattle.jobs.specs.declared.Ends.{Ends}
use Rattle.jobs.specs.declared.Job.{Job}

-- the side of unknown k, and all of them
abbrev pub side_of : Ends → ℕ → Interval
side_of e k = record { lo = number_at e.lo k; hi = number_at e.hi k }

unfoldable pub box_of : ℕ → Ends → List Interval
box_of n e = vector_of n (side_of e)

-- the ends of a box; "every result leave[s] them zero", the places past n
abbrev pub low_ends : ℕ → List Interval → List ℤ
low_ends n x = tab n_max n (pos 0) (λ k. (side_at x k).lo)

abbrev pub high_ends : ℕ → List Interval → List ℤ
high_ends n x = tab n_max n (pos 0) (λ k. (side_at x k).hi)

abbrev pub ends_of : ℕ → List Interval → Ends
ends_of n x = record { lo = low_ends n x; hi = high_ends n x }

-- "a starting box"
abbrev pub start_of : Job → List Interval
start_of j = box_of j.head.n j.ends

-- "a proposed inverse"
abbrev pub inverse_of : Job → ℕ → ℕ → ℤ
inverse_of j i = number_at (row_at j.inv i)
