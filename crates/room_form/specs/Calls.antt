-- The five calls: what each answers, and every byte of the table after it. Document 02, P12, "Refusals".
use Rattle.std.specs.Prelude.{ℕ, zero, suc, ◌+◌, Bool, true, false, cond, ◌&&◌, List, length, eqb, leb, ltb, Ok, Err}
use Rattle.std.proofs.lemmas.List.Edits.{sets}
use Rattle.sizes.specs.Sizes.{visit_max}
use Rattle.faults.specs.declared.Fault.{Fault}
use Rattle.faults.specs.Checked.{Checked, Status, status_of}
use Rattle.faults.specs.Checks.{is_bad, bad_unless, on_line, and_then}
use Rattle.jobs.specs.declared.Result.{Result}
use Rattle.checks.specs.Answered.{job_in}
use Rattle.job_form.specs.JobForm.{read_job}
use Rattle.result_form.specs.ResultShows.{show_result}
use Rattle.cells.specs.Cells.{number_bytes, cell, zeros}
use Rattle.visits.specs.Visits.{opened_as, is_finished, next_reading}
use Rattle.room_form.specs.declared.Room.{Room}
use Rattle.room_form.specs.declared.Opened.{Opened}
use Rattle.room_form.specs.Table.{rooms_max, slot_size, table_size, job_from, slot_from, last_in, visit_in, room_at}
use Rattle.room_form.specs.Table.{whole}

-- a refusal of the table's own, with line 0
abbrev pub unless : Bool → Fault → Status
unless good f = on_line (bad_unless good f) 0

-- ---- clearing: "16, exactly where the lent bytes are too few"

abbrev pub clear_status : List ℕ → Status
clear_status t = unless (leb table_size (length t)) Fault.Table

unfoldable pub cleared : List ℕ → List ℕ
cleared t = cond (is_bad (clear_status t)) t (sets t 0 (zeros table_size))

-- ---- "first 16, exactly where the lent bytes are too few or .. break the table's form"

abbrev pub table_status : List ℕ → Status
table_status t = unless (whole t) Fault.Table

-- ---- opening: "then the job's own, then 13 exactly when all eight slots are taken, then 14 after visit 999,999,999"

abbrev pub is_free : Room → Bool
is_free Room.Free = true
is_free (Room.Taken v) = false
is_free Room.Broken = false

-- the first of m places from k on, or k + m where there is none
unfoldable pub first_from : ℕ → (ℕ → Bool) → ℕ → ℕ
first_from zero f k = k
first_from (suc m) f k = cond (f k) k (first_from m f (suc k))

-- "the lowest free slot"
abbrev pub lowest_free : List ℕ → ℕ
lowest_free t = first_from rooms_max (λ k. is_free (room_at t k)) 0

abbrev pub open_status : List ℕ → List ℕ → Status
open_status t text =
    and_then (table_status t)
    (and_then (status_of (read_job text))
    (and_then (unless (ltb (lowest_free t) rooms_max) Fault.Full) (unless (ltb (last_in t) visit_max) Fault.Visits)))

-- "hands out a visit number, 1 upward from a clearing"
abbrev pub next_visit : List ℕ → ℕ
next_visit t = last_in t + 1

unfoldable pub open_answer : Status → ℕ → ℕ → Checked Opened
open_answer (Ok tt) slot visit = Ok (record { slot = slot; visit = visit })
open_answer (Err r) slot visit = Err r

-- the visit's number, its reading and its job text
abbrev pub with_visitor : List ℕ → ℕ → ℕ → List ℕ → List ℕ → List ℕ
with_visitor t slot visit reading text =
    sets (sets (sets t 0 (number_bytes visit)) (slot_from slot) (cell reading)) (slot_from slot + job_from) (cell text)

unfoldable pub opened : List ℕ → List ℕ → List ℕ
opened t text =
    cond (is_bad (open_status t text)) t
    (with_visitor t (lowest_free t) (next_visit t)
    (show_result (opened_as (next_visit t) (job_in (read_job text)))) text)

-- ---- the other calls: "15 for a slot or visit not open, next after 16"

abbrev pub is_taken : Room → Bool
is_taken Room.Free = false
is_taken (Room.Taken v) = true
is_taken Room.Broken = false

abbrev pub holds : Room → ℕ → Bool
holds room visit = is_taken room && eqb (visit_in room).reading.visit visit

abbrev pub held_status : List ℕ → ℕ → ℕ → Status
held_status t slot visit =
    and_then (table_status t) (unless (ltb slot rooms_max && holds (room_at t slot) visit) Fault.NotOpen)

-- "a step call answers with the reading after it and changes nothing on a finished one"; "then 7 for the result text"
abbrev pub after_step : List ℕ → ℕ → Result
after_step t slot = next_reading (visit_in (room_at t slot)).job (visit_in (room_at t slot)).reading

abbrev pub finished : Room → Bool
finished room =
    is_finished (visit_in room).reading.verdict (visit_in room).reading.steps (visit_in room).job.steps

unfoldable pub stepped : List ℕ → ℕ → ℕ → ℕ → List ℕ
stepped t slot visit space =
    cond (is_bad (held_status t slot visit)) t
    (cond (ltb space (length (show_result (after_step t slot)))) t
    (cond (finished (room_at t slot)) t (sets t (slot_from slot) (cell (show_result (after_step t slot))))))

-- "Closing frees the slot."
unfoldable pub closed : List ℕ → ℕ → ℕ → List ℕ
closed t slot visit = cond (is_bad (held_status t slot visit)) t (sets t (slot_from slot) (zeros slot_size))
