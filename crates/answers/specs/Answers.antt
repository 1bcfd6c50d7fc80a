-- What a request is answered with, and how the answer is put.
use Rattle.std.specs.Prelude.{ℕ, ◌+◌, ◌≤◌, ◌≡◌, List, [], ◌∷◌, ◌++◌, length, take, drop, Ok, Err, unwrap_or, pos}
use Rattle.sizes.specs.Sizes.{text_max, boxes_max}
use Rattle.digits.specs.Bytes.{line_feed}
use Rattle.digits.specs.Number.{digits_max}
use Rattle.digits.specs.Show.{show_magnitude}
use Rattle.text.specs.Cut.{end_each}
use Rattle.faults.specs.Words.{fault_number}
use Rattle.faults.specs.declared.Refusal.{Refusal}
use Rattle.faults.specs.Checked.{Status, Checked}
use Rattle.writing.specs.Wrote.{Wrote, line}
use Rattle.desk.specs.Desk.{solve_status, solve_text, job_status, job_text, result_status, result_text}
use Rattle.arguments.specs.Words.{space, behind}
use Rattle.arguments.specs.Boxes.{boxed_by, told_by}
use Rattle.arguments.specs.Depths.{deep_by}
use Rattle.jobs.specs.declared.Ends.{Ends}
use Rattle.jobs.specs.Zero.{zero_ends}
use Rattle.arguments.specs.declared.boxes.Told.{Told}
use Rattle.arguments.specs.declared.depths.Deep.{Deep}
use Rattle.one_step.specs.OneStep.{decide_status}
use Rattle.step_text.specs.Texts.{decide_text, own_status, own_image, box_status, box_image}
use Rattle.requests.specs.declared.Op.{Op}

-- ---- the arguments, behind the first word

-- (all zero where they are not good: no request has such words)

-- `image LO HI`
unfoldable pub box_asked : List ℕ → Ends
box_asked w = unwrap_or (boxed_by (behind space w)) zero_ends

-- `decide N LO HI KLO KHI`
abbrev pub not_told : Told
not_told = record { n = 0; x = zero_ends; k = zero_ends }

unfoldable pub told_asked : List ℕ → Told
told_asked w = unwrap_or (told_by (behind space w)) not_told

-- `halve DEPTH ROOM`, ROOM at most what so many halvings list
abbrev pub not_deep : Deep
not_deep = record { depth = pos 0; room = 0 }

pub record DeepAsked (r : Deep) (w : List ℕ) : Type 0 where
  pub is : r ≡ unwrap_or (deep_by (behind space w)) not_deep
  pub few : r.room ≤ boxes_max

unfoldable pub told_status : List ℕ → Status
told_status w = decide_status (told_asked w).n (told_asked w).x (told_asked w).k

unfoldable pub told_text : List ℕ → List ℕ
told_text w = decide_text (told_asked w).n (told_asked w).x (told_asked w).k

-- ---- the answers to the words w and the text t

-- `solve` answers a job by its result, `job` and `result` write the text again, `parts` as `job` does, `image` shows K,
-- `decide` what X and K decide
unfoldable pub status_of : Op → List ℕ → List ℕ → Status
status_of Op.Solve w t = solve_status t
status_of Op.Job w t = job_status t
status_of Op.Parts w t = job_status t
status_of Op.Result w t = result_status t
status_of Op.Image w t = own_status t
status_of Op.ImageIn w t = box_status t (box_asked w)
status_of Op.Decide w t = told_status w

unfoldable pub text_of : Op → List ℕ → List ℕ → List ℕ
text_of Op.Solve w t = solve_text t
text_of Op.Job w t = job_text t
text_of Op.Parts w t = job_text t
text_of Op.Result w t = result_text t
text_of Op.Image w t = own_image t
text_of Op.ImageIn w t = box_image t (box_asked w)
text_of Op.Decide w t = told_text w

-- `fault=`
abbrev pub fault_key : List ℕ
fault_key = 102 ∷ 97 ∷ 117 ∷ 108 ∷ 116 ∷ 61 ∷ []

-- `line=`
abbrev pub line_key : List ℕ
line_key = 108 ∷ 105 ∷ 110 ∷ 101 ∷ 61 ∷ []

-- "A fault returns its number and a line": a line for each
unfoldable pub fault_bytes : Refusal → List ℕ
fault_bytes r =
    end_each line_feed
    ((fault_key ++ show_magnitude digits_max (fault_number r.fault)) ∷ (line_key ++ show_magnitude digits_max r.line) ∷
    [])

-- bytes that every answer fits in
abbrev pub room_max : ℕ
room_max = text_max

-- the text that stands in the buffer as it is, a fault by its two lines
unfoldable pub told_of : Checked ℕ → List ℕ → List ℕ
told_of (Ok len) old = take len old
told_of (Err r) old = fault_bytes r

-- what is told stands whole at the buffer's start, and the bytes beyond it are the old ones
pub record Tells (a : Checked ℕ) (old new : List ℕ) (r : ℕ) : Type 0 where
  pub count : r ≡ length (told_of a old)
  pub bytes : new ≡ told_of a old ++ drop r old
  pub small : r ≤ room_max
  pub inside : r ≤ length new
  pub whole : r ≡ length (take r new)

-- the answer's length on a line, then its bytes
unfoldable pub packet_of : List ℕ → List ℕ
packet_of answer = line (show_magnitude digits_max (length answer)) ++ answer

-- the most bytes of an answer's line
abbrev pub line_max : ℕ
line_max = digits_max + 1

pub record Puts (old new : List ℕ) (at r : ℕ) (answer : List ℕ) : Type 0 where
  pub wrote : Wrote old new at r (packet_of answer)
  pub short : r ≤ at + line_max + length answer
