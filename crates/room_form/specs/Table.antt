-- The table of eight rooms as bytes: docs/ROOMS.md, "The form of the table".
use Rattle.std.specs.Prelude.{ℕ, ◌+◌, ◌*◌, Bool, true, false, cond, ◌&&◌, List, length, eqb, leb, Ok, Err}
use Rattle.sizes.specs.Sizes.{visit_max}
use Rattle.lists.specs.Loops.{all_b}
use Rattle.jobs.specs.declared.Job.{Job}
use Rattle.jobs.specs.declared.Result.{Result}
use Rattle.jobs.specs.Zero.{no_job, no_result}
use Rattle.job_form.specs.JobForm.{read_job}
use Rattle.result_form.specs.ResultForm.{read_result}
use Rattle.cells.specs.Cells.{part, number_at, text_at}
use Rattle.room_form.specs.declared.Visit.{Visit}
use Rattle.room_form.specs.declared.Room.{Room}
use Rattle.faults.specs.Checked.{Checked}

-- "Eight rooms"
abbrev pub rooms_max : ℕ
rooms_max = 8

-- where a slot's two texts stand, and how long they may be
abbrev pub reading_from : ℕ
reading_from = 0

abbrev pub reading_most : ℕ
reading_most = 252

abbrev pub job_from : ℕ
job_from = 256

abbrev pub job_most : ℕ
job_most = 2044

abbrev pub slot_size : ℕ
slot_size = 2304

abbrev pub head_size : ℕ
head_size = 4

abbrev pub table_size : ℕ
table_size = head_size + rooms_max * slot_size

-- where slot k begins
abbrev pub slot_from : ℕ → ℕ
slot_from k = head_size + k * slot_size

abbrev pub slot_in : List ℕ → ℕ → List ℕ
slot_in t k = part (slot_from k) slot_size t

-- "the last visit number that was handed out"
abbrev pub last_in : List ℕ → ℕ
last_in t = number_at t 0

-- ---- what stands in a slot

abbrev pub taken_room : Job → Result → Room
taken_room j r = Room.Taken (record { job = j; reading = r })

-- the visit in a slot; beside any other room its values are zero
abbrev pub visit_in : Room → Visit
visit_in Room.Free = record { job = no_job; reading = no_result }
visit_in (Room.Taken v) = v
visit_in Room.Broken = record { job = no_job; reading = no_result }

-- "both have the same job number and the same n, the reading's visit is from 1 to the last visit number, the reading's
-- steps are at most the job's allowance"
unfoldable pub is_visit : ℕ → Job → Result → Bool
is_visit last j r =
    eqb r.number j.head.number
    && (eqb r.n j.head.n && ((leb 1 r.visit && leb r.visit last) && leb r.steps j.steps))

-- "the job text is a right job text and the reading a right result text"
unfoldable pub held_by : ℕ → Checked Job → Checked Result → Room
held_by last (Ok j) (Ok r) = cond (is_visit last j r) (taken_room j r) Room.Broken
held_by last (Ok j) (Err e) = Room.Broken
held_by last (Err e) r = Room.Broken

-- "free, which is that the length of its job text is 0, or holds a visit: the reading is at most 252 bytes long and the
-- job text at most 2,044"
unfoldable pub room_of : ℕ → List ℕ → Room
room_of last s =
    cond (eqb (number_at s job_from) 0) Room.Free
    (cond (leb (number_at s reading_from) reading_most && leb (number_at s job_from) job_most)
    (held_by last (read_job (text_at s job_from)) (read_result (text_at s reading_from))) Room.Broken)

abbrev pub room_at : List ℕ → ℕ → Room
room_at t k = room_of (last_in t) (slot_in t k)

-- ---- the form

abbrev pub is_whole : Room → Bool
is_whole Room.Free = true
is_whole (Room.Taken v) = true
is_whole Room.Broken = false

-- "The bytes are of the form exactly where there are at least 18,436 of them, the last visit number is at most
-- 999,999,999, each slot is free or holds a visit"
unfoldable pub whole : List ℕ → Bool
whole t =
    leb table_size (length t) && (leb (last_in t) visit_max && all_b rooms_max (λ k. is_whole (room_at t k)))
