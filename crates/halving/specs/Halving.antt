-- Document 02, P8: what halving answers, and what it leaves in the lent list.
use Rattle.std.specs.Prelude.{Bool, false, List, ◌++◌, ◌≡◌, ℕ, ◌/◌, ◌^◌, leb, ℤ, pos, negsuc, nat_abs, length, drop}
use Rattle.std.specs.Prelude.{Ok, Err}
use Rattle.sizes.specs.Sizes.{depth_max}
use Rattle.faults.specs.Checks.{and_then, bad_unless, on_line}
use Rattle.faults.specs.declared.Fault.{Fault}
use Rattle.faults.specs.Checked.{Checked, Status}
use Rattle.jobs.specs.declared.Job.{Job}
use Rattle.checks.specs.Checks.{check_job}
use Rattle.halving.specs.Boxes.{boxes_of}
use Rattle.halving.specs.Lists.{listed_places, numbers_of}

-- "Depth is 0 to 8."
abbrev pub depth_in : ℤ → Bool
depth_in (pos depth) = leb depth depth_max
depth_in (negsuc m) = false

-- "8 for depth not 0 to 8"
unfoldable pub depth_status : ℤ → Status
depth_status depth = on_line (bad_unless (depth_in depth) Fault.Steps) 0

-- "7 where the list can't hold two to the power of the depth": a list of `room` numbers
unfoldable pub room_status : ℕ → ℕ → Status
room_status depth room = on_line (bad_unless (leb (2 ^ depth) (room / listed_places)) Fault.ShortBuffer) 0

-- "Refusals: the job's own, then 8 .., then 7"
unfoldable pub halve_status : Job → ℤ → ℕ → Status
halve_status j depth room = and_then (check_job j) (and_then (depth_status depth) (room_status (nat_abs depth) room))

-- "the list is untouched by any of them, and past its last listed box always"
abbrev pub list_after : Status → List ℤ → List ℤ → List ℤ
list_after (Ok tt) numbers old = numbers ++ drop (length numbers) old
list_after (Err r) numbers old = old

-- a job is halved into the list `old`, and how many boxes are listed
pub record Halves (j : Job) (depth : ℤ) (old new : List ℤ) (r : Checked ℕ) : Type 0 where
  pub answer : r ≡ and_then (halve_status j depth (length old)) (Ok (length (boxes_of j (nat_abs depth))))
  pub list : new ≡ list_after (halve_status j depth (length old))
      (numbers_of j.head.n (boxes_of j (nat_abs depth))) old
