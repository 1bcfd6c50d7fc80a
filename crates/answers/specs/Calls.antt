-- What a call on the table of rooms is answered with, and every byte of the table after it.
use Rattle.std.specs.Prelude.{ℕ, List, [], ◌∷◌, ◌++◌, length, leb, unwrap_or}
use Rattle.digits.specs.Bytes.{line_feed}
use Rattle.digits.specs.Number.{digits_max}
use Rattle.digits.specs.Show.{show_magnitude}
use Rattle.text.specs.Cut.{end_each}
use Rattle.text.specs.Words.{visit_key}
use Rattle.faults.specs.Checks.{and_then}
use Rattle.faults.specs.declared.Fault.{Fault}
use Rattle.faults.specs.Checked.{Status}
use Rattle.arguments.specs.Words.{space, behind}
use Rattle.arguments.specs.Visits.{shown_by, read_by}
use Rattle.arguments.specs.declared.visits.Shown.{Shown}
use Rattle.requests.specs.declared.Call.{Call}
use Rattle.result_form.specs.ResultShows.{show_result}
use Rattle.room_form.specs.Table.{room_at, visit_in}
use Rattle.room_form.specs.Calls.{unless, clear_status, cleared, lowest_free, open_status, next_visit, opened}
use Rattle.room_form.specs.Calls.{held_status, after_step, stepped, closed}
use Rattle.answers.specs.Answers.{room_max}

-- ---- the arguments, behind the first word

-- (all zero where they are not good: no request has such words)
abbrev pub not_shown : Shown
not_shown = record { slot = 0; visit = 0; room = 0 }

-- `step SLOT VISIT`, `close SLOT VISIT`
unfoldable pub shown_asked : List ℕ → Shown
shown_asked w = unwrap_or (shown_by (behind space w)) not_shown

-- `reading SLOT VISIT ROOM`
unfoldable pub read_asked : List ℕ → Shown
read_asked w = unwrap_or (read_by (behind space w)) not_shown

-- ---- the texts

-- `slot=`
abbrev pub slot_key : List ℕ
slot_key = 115 ∷ 108 ∷ 111 ∷ 116 ∷ 61 ∷ []

-- "hands out a visit number": a line for the slot, and one for the visit
unfoldable pub opened_bytes : ℕ → ℕ → List ℕ
opened_bytes slot visit =
    end_each line_feed
    ((slot_key ++ show_magnitude digits_max slot) ∷ (visit_key ++ show_magnitude digits_max visit) ∷ [])

-- "then 7 for the result text", here where it has more than ROOM bytes
abbrev pub or_short : Status → ℕ → List ℕ → Status
or_short st room text = and_then st (unless (leb (length text) room) Fault.ShortBuffer)

-- ---- the answers to the words w and the text t, of the table b

unfoldable pub call_status : Call → List ℕ → List ℕ → List ℕ → Status
call_status Call.Clear b w t = clear_status b
call_status Call.Open b w t = open_status b t
call_status Call.Step b w t = held_status b (shown_asked w).slot (shown_asked w).visit
call_status Call.Reading b w t =
    or_short (held_status b (read_asked w).slot (read_asked w).visit) (read_asked w).room
    (show_result (visit_in (room_at b (read_asked w).slot)).reading)
call_status Call.Close b w t = held_status b (shown_asked w).slot (shown_asked w).visit

unfoldable pub call_text : Call → List ℕ → List ℕ → List ℕ → List ℕ
call_text Call.Clear b w t = []
call_text Call.Open b w t = opened_bytes (lowest_free b) (next_visit b)
call_text Call.Step b w t = show_result (after_step b (shown_asked w).slot)
call_text Call.Reading b w t = show_result (visit_in (room_at b (read_asked w).slot)).reading
call_text Call.Close b w t = []

-- a step's buffer is one for any text
unfoldable pub call_table : Call → List ℕ → List ℕ → List ℕ → List ℕ
call_table Call.Clear b w t = cleared b
call_table Call.Open b w t = opened b t
call_table Call.Step b w t = stepped b (shown_asked w).slot (shown_asked w).visit room_max
call_table Call.Reading b w t = b
call_table Call.Close b w t = closed b (shown_asked w).slot (shown_asked w).visit
