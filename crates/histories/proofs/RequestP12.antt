-- Request P12, "Eight rooms, slots used again". Only statements, each proved by one line from the files beside this.
-- What each call answers, and every byte of the table and of its buffer after it, is its contract
-- (rooms/src/lib.rt over room_form/specs/Calls.antt). Histories are over specs/Histories.antt. The visit line of a
-- result is in promises/proofs/RequestP12.antt. Fault.Full is 13, Visits 14, NotOpen 15, Table 16.
use Prim.Native.Nat.{ℕ, ◌+◌, ◌≤◌, ◌<◌, min}
use mathlib.Core.Path.{◌≡◌, ap}
use mathlib.Core.Bool.{true, false}
use mathlib.Core.List.{List, ◌++◌}
use mathlib.Core.Logic.{◌⊎◌}
use lib.ListN.{length}
use Rattle.faults.specs.declared.Fault.{Fault}
use Rattle.faults.specs.Checked.{refused, status_of}
use Rattle.faults.specs.Checks.{is_bad}
use Rattle.jobs.specs.declared.Job.{Job}
use Rattle.jobs.specs.declared.Result.{Result}
use Rattle.jobs.specs.declared.Verdict.{Verdict}
use Rattle.checks.specs.Checks.{check_job}
use Rattle.checks.specs.Answered.{job_in}
use Rattle.job_form.specs.JobForm.{read_job}
use Rattle.result_form.specs.ResultShows.{show_result}
use Rattle.result_form.specs.ResultForm.{with_visit}
use Rattle.run.specs.Job.{outcome_of}
use Rattle.step.specs.Values.{start_of}
use Rattle.runs.specs.Boxes.{BoxInside}
use Rattle.promises.specs.Claims.{Point, Lies, Same}
use Rattle.promises.specs.Jobs.{job_run, Solves}
use Rattle.visits.specs.Visits.{reading_of, next_reading, times, opened_as}
use Rattle.visits.proofs.Steps as steps
use Rattle.room_form.specs.declared.Room.{Room}
use Rattle.room_form.specs.Table.{visit_in, table_size, last_in, room_at, whole}
use Rattle.room_form.specs.Calls.{clear_status, cleared, is_free, lowest_free, next_visit, open_status, opened}
use Rattle.room_form.specs.Calls.{is_taken}
use Rattle.room_form.specs.Calls.{held_status, after_step, finished, stepped, closed}
use Rattle.histories.specs.Histories.{Call, after, after_all, Holds, own_steps, Stays, reads_after, box_after}
use Rattle.room_form.proofs.Visited.{HeldAt}
use Rattle.room_form.proofs.Visited as visited
use Rattle.room_form.proofs.Opening as opening
use Rattle.histories.proofs.Refusals as refusals
use Rattle.histories.proofs.Formed as formed
use Rattle.histories.proofs.Isolated as isolated
use Rattle.histories.proofs.Own as own
use Rattle.histories.proofs.PerVisit as per-visit
use Rattle.histories.proofs.Stale as stale
use Rattle.std.specs.Prelude.{Ok}

-- ---- opening and closing

-- "Opening takes the lowest free slot": it is free, and no lower one is;
pub slot-free : (t text : List ℕ) → open_status t text ≡ Ok tt
    → is_free (room_at t (lowest_free t)) ≡ true
slot-free t text done = isolated.lowest-is-free t (formed.open-slot t text done)

pub slot-lowest : (t : List ℕ) (i : ℕ) → i < lowest_free t → is_free (room_at t i) ≡ false
slot-lowest = own.lower-taken

-- "and hands out a visit number, 1 upward from a clearing"
pub counts-from : (t : List ℕ) → table_size ≤ length t → next_visit (cleared t) ≡ 1
counts-from = refusals.cleared-next

pub counts_up : (t text : List ℕ) → open_status t text ≡ Ok tt → next_visit (opened t text) ≡ next_visit t + 1
counts_up t text done = ap (λ (n : ℕ). n + 1) (formed.opened-last t text done)

-- "and not reused before the next;": a visit that was handed out and that a slot does not hold, it never holds again
pub not-reused : (h : List Call) (t : List ℕ) (k v : ℕ) → whole t ≡ true → v ≤ last_in t
    → is_bad (held_status t k v) ≡ true → is_bad (held_status (after_all t h) k v) ≡ true
not-reused = stale.stale

-- "Closing frees the slot."
pub close-frees : (t : List ℕ) (slot visit : ℕ) → held_status t slot visit ≡ Ok tt
    → room_at (closed t slot visit) slot ≡ Room.Free
close-frees = refusals.close-frees

-- ---- steps

-- "Steps add up to the job's allowance,": after so many step calls the reading is the run of the job with the lesser of
-- their number and its allowance;
pub steps-add : (j : Job) → check_job j ≡ Ok tt → (visit calls : ℕ)
    → times calls (next_reading j) (opened_as visit j) ≡ reading_of visit j (job_run j (min calls j.steps))
steps-add = steps.steps-add

-- "and the answer after them is that of one run."
pub one-run : (j : Job) → check_job j ≡ Ok tt → (visit : ℕ)
    → reading_of visit j (job_run j j.steps) ≡ reading_of visit j (outcome_of j)
one-run = steps.last-run

-- "A visit not yet decided reads as spent with its steps and box so far;": a run that is spent counts all its steps
pub spent-so-far : (j : Job) → check_job j ≡ Ok tt → (visit a : ℕ)
    → (reading_of visit j (job_run j a)).verdict ≡ Verdict.Spent → (reading_of visit j (job_run j a)).steps ≡ a
spent-so-far = steps.reads-spent

-- "a step call answers with the reading after it and changes nothing on a finished one."
pub finished-stays : (t : List ℕ) (slot visit space : ℕ) → finished (room_at t slot) ≡ true
    → (stepped t slot visit space ≡ t) × (after_step t slot ≡ (visit_in (room_at t slot)).reading)
finished-stays = refusals.finished-stays

-- ---- isolation

-- "between opening and closing a holder's verdict, box and steps depend on its own job and calls only, its own calls
-- being those that show its slot and visit and aren't refused": after any history in which its visit is not closed it
-- reads as the run of its own job with so many steps as its own step calls, and "the answer of one run [reads] per
-- visit"
pub own-calls-only : (t text : List ℕ) → open_status t text ≡ Ok tt → (h : List Call)
    → Stays (lowest_free t) (next_visit t) h
    → Holds (after_all (opened t text) h) (lowest_free t) (next_visit t) (job_in (read_job text))
    (reading_of (next_visit t) (job_in (read_job text))
    (job_run (job_in (read_job text))
    (min (own_steps (lowest_free t) (next_visit t) (opened t text) h) (job_in (read_job text)).steps)))
own-calls-only = own.own-reading

-- two visits of one job text, on any tables, in any slots, whatever others do: after as many own step calls each they
-- read alike but for their numbers
pub own-job-only : (h g : List Call) (t u text : List ℕ) → open_status t text ≡ Ok tt
    → open_status u text ≡ Ok tt → Stays (lowest_free t) (next_visit t) h → Stays (lowest_free u) (next_visit u) g
    → own_steps (lowest_free t) (next_visit t) (opened t text) h
    ≡ own_steps (lowest_free u) (next_visit u) (opened u text) g
    → with_visit (reads_after t text h) 0 ≡ with_visit (reads_after u text g) 0
own-job-only = own.same-readings

-- two histories that agree on a holder's job, reading and own step calls give equal readings
pub two-histories : (h g : List Call) (t u : List ℕ) (k v i w : ℕ) (j : Job) (r : Result) → Holds t k v j r
    → Holds u i w j r → Stays k v h → Stays i w g → own_steps k v t h ≡ own_steps i w u g
    → room_at (after_all t h) k ≡ room_at (after_all u g) i
two-histories = own.two-histories

-- ---- "Under that same condition demand 3 .. read[s] per visit."
-- By `own-calls-only` a visit reads as the run `job_run` of its job, of which promises/proofs/Demand3.antt speaks: what
-- that says of two allowances is here said of two histories, one of which goes on from the other.

module _ (t text : List ℕ) (done : open_status t text ≡ Ok tt) where
  abbrev j : Job
  j = (job_in (read_job text))

  abbrev n : ℕ
  n = j.head.n

  module _ (h g : List Call) (stays : Stays (lowest_free t) (next_visit t) (h ++ g)) where
    -- "More steps never unsay an answer. .. The larger allowance's box lies in the smaller's,"
    pub later-inside : BoxInside n (box_after t text (h ++ g)) (box_after t text h)
    later-inside = per-visit.later-inside t text done h g stays

    -- "and a "none" or "unique" from the smaller stays, with its box.": with its steps too, and so does a "stalled"
    pub decided-stays : ((reads_after t text h).verdict ≡ Verdict.Spent → ⊥)
        → reads_after t text (h ++ g) ≡ reads_after t text h
    decided-stays = per-visit.decided-stays t text done h g stays

  module _ (h : List Call) (stays : Stays (lowest_free t) (next_visit t) h) where
    -- "So no exact fraction zero of the starting box is ever lost,"
    pub zero-kept : (p : Point) → Solves j p → Lies n p (start_of j) → Lies n p (box_after t text h)
    zero-kept = per-visit.zero-kept t text done h stays

    pub none-no-zero : (reads_after t text h).verdict ≡ Verdict.None → (p : Point) → Solves j p
        → Lies n p (start_of j) → ⊥
    none-no-zero = per-visit.none-no-zero t text done h stays

    -- "and "unique" means there is at most one."
    pub at_most_one : (reads_after t text h).verdict ≡ Verdict.Unique → (p r : Point) → Solves j p → Solves j r
        → Lies n p (start_of j) → Lies n r (start_of j) → Same n p r
    at_most_one = per-visit.at_most_one t text done h stays

-- ---- refusals

-- "first 16, exactly where the lent bytes are too few"
pub clear-sixteen : (t : List ℕ) → length t < table_size → clear_status t ≡ refused Fault.Table 0
clear-sixteen = refusals.clear-no-table

pub clear-else : (t : List ℕ) → table_size ≤ length t → clear_status t ≡ Ok tt
clear-else = refusals.clear-done

-- "or, clearing apart, break the table's form"
pub open-sixteen : (t text : List ℕ) → whole t ≡ false → open_status t text ≡ refused Fault.Table 0
open-sixteen = opening.no_table

pub held-sixteen : (t : List ℕ) (slot visit : ℕ) → whole t ≡ false
    → held_status t slot visit ≡ refused Fault.Table 0
held-sixteen = visited.held-no-table

pub only-sixteen : (t text : List ℕ) → whole t ≡ true → open_status t text ≡ refused Fault.Table 0 → ⊥
only-sixteen = refusals.only-no-table

pub held-only-sixteen : (t : List ℕ) (slot visit : ℕ) → whole t ≡ true
    → held_status t slot visit ≡ refused Fault.Table 0 → ⊥
held-only-sixteen = refusals.held-only-no-table

-- "which clearing and every call leave whole;"
pub clear-leaves-whole : (t : List ℕ) → table_size ≤ length t → whole (cleared t) ≡ true
clear-leaves-whole = formed.clear-formed

pub calls-leave-whole : (t : List ℕ) → whole t ≡ true → (c : Call) → whole (after t c) ≡ true
calls-leave-whole = isolated.call-formed

-- "opening, then the job's own,"
pub then-job : (t text : List ℕ) → whole t ≡ true → is_bad (status_of (read_job text)) ≡ true
    → open_status t text ≡ (status_of (read_job text))
then-job = opening.no-job

-- "then 13 exactly when all eight slots are taken,"
pub then-full : (t text : List ℕ) → whole t ≡ true → is_bad (status_of (read_job text)) ≡ false
    → ((i : ℕ) → i < 8 → is_taken (room_at t i) ≡ true) → open_status t text ≡ refused Fault.Full 0
then-full t text e right taken = opening.is-full t text e right (refusals.none_left t taken)

pub only-full : (t text : List ℕ) → whole t ≡ true → open_status t text ≡ refused Fault.Full 0 → (i : ℕ) → i < 8
    → is_taken (room_at t i) ≡ true
only-full = refusals.only-full

-- "then 14 after visit 999,999,999;"
pub then-visits : (t text : List ℕ) → whole t ≡ true → is_bad (status_of (read_job text)) ≡ false → (i : ℕ) → i < 8
    → is_free (room_at t i) ≡ true → 999999999 ≤ last_in t → open_status t text ≡ refused Fault.Visits 0
then-visits t text e right i l free = opening.no-visit t text e right (refusals.some_left t i l free)

pub only-visits : (t text : List ℕ) → whole t ≡ true → open_status t text ≡ refused Fault.Visits 0
    → 999999999 ≤ last_in t
only-visits = refusals.only-last

-- and no refusal else
pub else-opened : (t text : List ℕ) → whole t ≡ true → is_bad (status_of (read_job text)) ≡ false → (i : ℕ) → i < 8
    → is_free (room_at t i) ≡ true → last_in t < 999999999 → open_status t text ≡ Ok tt
else-opened t text e right i l free = opening.is-opened t text e right (refusals.some_left t i l free)

-- "other calls, 15 for a slot or visit not open, next after 16,"
pub then-not-open : (t : List ℕ) (slot visit : ℕ) → whole t ≡ true
    → ((held_status t slot visit ≡ Ok tt) × HeldAt t slot visit)
    ⊎ (held_status t slot visit ≡ refused Fault.NotOpen 0)
then-not-open = refusals.open-or-not

-- "No refusal changes the table."
pub open-unchanged : (t text : List ℕ) → is_bad (open_status t text) ≡ true → opened t text ≡ t
open-unchanged = refusals.open-unchanged

pub step-unchanged : (t : List ℕ) (slot visit space : ℕ) → is_bad (held_status t slot visit) ≡ true
    → stepped t slot visit space ≡ t
step-unchanged = refusals.step-unchanged

pub short-unchanged : (t : List ℕ) (slot visit space : ℕ) → space < length (show_result (after_step t slot))
    → stepped t slot visit space ≡ t
short-unchanged = refusals.short-unchanged

pub close-unchanged : (t : List ℕ) (slot visit : ℕ) → is_bad (held_status t slot visit) ≡ true → closed t slot visit ≡ t
close-unchanged = refusals.close-unchanged

pub clear-unchanged : (t : List ℕ) → length t < table_size → cleared t ≡ t
clear-unchanged = refusals.clear-unchanged
