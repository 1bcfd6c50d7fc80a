-- Histories of calls on one table that do not clear it. Document 02, P12: "As long as the table isn't cleared and its
-- bytes change through these calls alone, between opening and closing".
use Rattle.std.specs.Prelude.{ℕ, ◌+◌, ◌<◌, ◌≡◌, Bool, true, false, cond, not, ◌&&◌, length, eqb, ltb}
use mathlib.Core.List.{List, [], ◌∷◌, foldl}
use Rattle.intervals.specs.declared.Interval.{Interval}
use Rattle.jobs.specs.declared.Job.{Job}
use Rattle.jobs.specs.declared.Result.{Result}
use Rattle.step.specs.Values.{box_of}
use Rattle.checks.specs.Answered.{job_in}
use Rattle.job_form.specs.JobForm.{read_job}
use Rattle.result_form.specs.ResultShows.{show_result}
use Rattle.room_form.specs.Table.{visit_in, rooms_max, taken_room, room_at, whole}
use Rattle.room_form.specs.Calls.{lowest_free, opened, after_step, stepped, closed}

-- a call with what it shows: a job text; or a slot, a visit and how many bytes its buffer has
pub data Call : Type 0 where
  opens : List ℕ → Call
  steps : ℕ → ℕ → ℕ → Call
  reads : ℕ → ℕ → ℕ → Call
  closes : ℕ → ℕ → Call

-- the table after a call
unfoldable pub after : List ℕ → Call → List ℕ
after t (Call.opens text) = opened t text
after t (Call.steps slot visit space) = stepped t slot visit space
after t (Call.reads slot visit space) = t
after t (Call.closes slot visit) = closed t slot visit

abbrev pub after_all : List ℕ → List Call → List ℕ
after_all = foldl after

-- slot k holds visit v of job j, which reads as r
pub record Holds (t : List ℕ) (k v : ℕ) (j : Job) (r : Result) : Type 0 where
  pub is-whole : whole t ≡ true
  pub inside : k < rooms_max
  pub room : room_at t k ≡ taken_room j r
  pub visit : r.visit ≡ v

-- a call shows the holder's slot and visit
abbrev pub shows : ℕ → ℕ → ℕ → ℕ → Bool
shows k v slot visit = eqb slot k && eqb visit v

-- "its own calls being those that show its slot and visit and aren't refused": how many of its own step calls a call is
unfoldable pub own_step : ℕ → ℕ → List ℕ → Call → ℕ
own_step k v t (Call.opens text) = 0
own_step k v t (Call.steps slot visit space) =
    cond (shows k v slot visit && not (ltb space (length (show_result (after_step t slot))))) 1 0
own_step k v t (Call.reads slot visit space) = 0
own_step k v t (Call.closes slot visit) = 0

unfoldable pub own_steps : ℕ → ℕ → List ℕ → List Call → ℕ
own_steps k v t [] = 0
own_steps k v t (c ∷ h) = own_step k v t c + own_steps k v (after t c) h

-- a call that does not close the visit, and a history of such
unfoldable pub Keeps : ℕ → ℕ → Call → Type 0
Keeps k v (Call.opens text) = Unit {0}
Keeps k v (Call.steps slot visit space) = Unit {0}
Keeps k v (Call.reads slot visit space) = Unit {0}
Keeps k v (Call.closes slot visit) = shows k v slot visit ≡ false

unfoldable pub Stays : ℕ → ℕ → List Call → Type 0
Stays k v [] = Unit {0}
Stays k v (c ∷ h) = Keeps k v c × Stays k v h

-- ---- from a visit's opening on

-- what it reads as after a history of calls
abbrev pub reads_after : List ℕ → List ℕ → List Call → Result
reads_after t text h = (visit_in (room_at (after_all (opened t text) h) (lowest_free t))).reading

-- and the box of that
abbrev pub box_after : List ℕ → List ℕ → List Call → List Interval
box_after t text h =
    box_of (job_in (read_job text)).head.n (record { lo = (reads_after t text h).lo; hi = (reads_after t text h).hi })
