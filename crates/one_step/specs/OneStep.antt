-- Document 02, P7: "Split the step: one operation gives K for a job and a box, the other takes X and K and gives the
-- verdict or the next box." Places past n are not looked at, and come back zero.
use Rattle.std.specs.Prelude.{ℕ, ℤ, pos, Ok}
use Rattle.sizes.specs.Sizes.{end_max, image_max}
use Rattle.faults.specs.Checks.{bad_unless, first_of, on_line, and_then}
use Rattle.term_checks.specs.Ranges.{all_within, all_ordered}
use Rattle.checks.specs.Checks.{unknowns_check, check_job}
use Rattle.jobs.specs.Zero.{zero_ends}
use Rattle.systems.specs.Kinds.{equation_of}
use Rattle.step.specs.Step.{image_box}
use Rattle.step.specs.Decide.{decide_of}
use Rattle.step.specs.Values.{box_of, ends_of, inverse_of}
use Rattle.faults.specs.declared.Fault.{Fault}
use Rattle.faults.specs.Checked.{Finding, Checked, Status, value_or}
use Rattle.jobs.specs.declared.Ends.{Ends}
use Rattle.jobs.specs.declared.Job.{Job}
use Rattle.step.specs.declared.Move.{Move}
use Rattle.step.specs.declared.Decision.{Decision}
use Rattle.one_step.specs.declared.Decided.{Decided}

-- every end from -most to most, then "a low end above its high end"
unfoldable pub ends_check : ℕ → ℤ → Ends → Finding
ends_check n most e =
    first_of (bad_unless (all_within e.lo n most) Fault.Beyond)
    (first_of (bad_unless (all_within e.hi n most) Fault.Beyond)
    (bad_unless (all_ordered e.lo e.hi n) Fault.Crossed))

-- "A box handed in is checked like a job's lo and hi"
abbrev pub box_check : ℕ → Ends → Finding
box_check n x = ends_check n (pos end_max) x

-- "The image on hand may be any two ends in each coordinate from -2^46 to 2^46."
abbrev pub image_check : ℕ → Ends → Finding
image_check n k = ends_check n (pos image_max) k

-- ---- "one operation gives K for a job and a box"

-- the job's own faults, with their lines; then the box, "but with line 0"
unfoldable pub image_status : Job → Ends → Status
image_status j x = and_then (check_job j) (on_line (box_check j.head.n x) 0)

unfoldable pub image_ends : Job → Ends → Ends
image_ends j x =
    ends_of j.head.n (image_box j.head.n (equation_of j) (inverse_of j) (box_of j.head.n x))

unfoldable pub gives_image : Job → Ends → Checked Ends
gives_image j x = and_then (image_status j x) (Ok (image_ends j x))

-- the image of an answer; beside a refusal "all is zero"
abbrev pub image_in : Checked Ends → Ends
image_in = value_or zero_ends

-- ---- "the other takes X and K and gives the verdict or the next box"

-- "Refusals, line 0: 3 for that n, first; 4 beyond the image's range, then 5 for its ends crossed, after .. the box's
-- own."
unfoldable pub decide_check : ℕ → Ends → Ends → Finding
decide_check n x k = first_of (unknowns_check n) (first_of (box_check n x) (image_check n k))

abbrev pub decide_status : ℕ → Ends → Ends → Status
decide_status n x k = on_line (decide_check n x k) 0

abbrev pub move_to : ℕ → Decision → Decided
move_to n d = record { what = d.what; ends = ends_of n d.sides }

-- "K cut with X, the order of the three tests and the counts stay as they are."
unfoldable pub moves_to : ℕ → Ends → Ends → Decided
moves_to n x k = move_to n (decide_of n (box_of n x) (box_of n k))

unfoldable pub gives_move : ℕ → Ends → Ends → Checked Decided
gives_move n x k = and_then (decide_status n x k) (Ok (moves_to n x k))

-- the same of an answer of this operation
abbrev pub decided_in : Checked Decided → Decided
decided_in = value_or (record { what = Move.None; ends = zero_ends })
