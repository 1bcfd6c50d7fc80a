-- What is answered where the boxes of a job, or of a job text, are listed.
use Rattle.std.specs.Prelude.{ℕ, ◌≤◌, ◌<◌, ◌≡◌, List, [], ◌∷◌, ◌++◌, ℤ, nat_abs, length, take, Ok, IfOk}
use Rattle.sizes.specs.Sizes.{boxes_max}
use Rattle.faults.specs.Checks.{and_then}
use Rattle.faults.specs.Checked.{Checked, Status, status_of}
use Rattle.jobs.specs.declared.Job.{Job}
use Rattle.checks.specs.Answered.{job_in}
use Rattle.job_form.specs.JobForm.{read_job}
use Rattle.step.specs.Values.{low_ends, high_ends}
use Rattle.halving.specs.Boxes.{Listed, boxes_of}
use Rattle.halving.specs.Lists.{numbers_of}
use Rattle.halving.specs.Halving.{halve_status, list_after}
use Rattle.listing.specs.declared.Listing.{Listing}
use Rattle.listing.specs.Lines.{head_lines, box_lines, EntryIn}

-- ---- the text of a job's listing
abbrev pub listed_lines : ℕ → Listed → List ℕ
listed_lines n b = box_lines b.unique (take n (low_ends n b.sides)) (take n (high_ends n b.sides))

unfoldable pub each_lines : ℕ → List Listed → List ℕ
each_lines n [] = []
each_lines n (b ∷ bs) = listed_lines n b ++ each_lines n bs

unfoldable pub listing_text : Job → ℕ → List ℕ
listing_text j depth =
    head_lines j.head.number (length (boxes_of j depth)) ++ each_lines j.head.n (boxes_of j depth)

-- ---- the answers
abbrev pub listing_of : Job → ℕ → Listing
listing_of j boxes = record { number = j.head.number; n = j.head.n; boxes = boxes }

abbrev pub listing_by : Status → Job → ℕ → Checked Listing
listing_by st j boxes = and_then st (Ok (listing_of j boxes))

-- the pieces of a listing can be written from its list
pub record Readable (l : Listing) (list : List ℤ) : Type 0 where
  pub few : l.boxes ≤ boxes_max
  pub each : (i : ℕ) → i < l.boxes → EntryIn l.n list i

-- a listing with the status st, of the job j with a depth, in the list that was `old`
pub record ListsAs (st : Status) (j : Job) (depth : ℤ) (old new : List ℤ) (r : Checked Listing) : Type 0 where
  pub answer : r ≡ listing_by st j (length (boxes_of j (nat_abs depth)))
  pub list : new ≡ list_after st (numbers_of j.head.n (boxes_of j (nat_abs depth))) old
  pub readable : IfOk r (λ l. Readable l new)

-- of values
abbrev pub ListsJob : Job → ℤ → List ℤ → List ℤ → Checked Listing → Type 0
ListsJob j depth old new r = ListsAs (halve_status j depth (length old)) j depth old new r

-- of a job text: "the job's own" refusals come first
unfoldable pub list_status : List ℕ → ℤ → ℕ → Status
list_status t depth room = and_then (status_of (read_job t)) (halve_status (job_in (read_job t)) depth room)

abbrev pub ListsText : List ℕ → ℤ → List ℤ → List ℤ → Checked Listing → Type 0
ListsText t depth old new r = ListsAs (list_status t depth (length old)) (job_in (read_job t)) depth old new r
