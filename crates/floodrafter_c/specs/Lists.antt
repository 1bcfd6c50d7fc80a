-- A listing, as C has it.
use Rattle.std.specs.Prelude.{ℕ, List, ◌≡◌, ℤ, nat_abs, length, Ok, Err}
use Rattle.faults.specs.Words.{fault_number}
use Rattle.faults.specs.Checked.{Checked}
use Rattle.checks.specs.Answered.{job_in}
use Rattle.job_form.specs.JobForm.{read_job}
use Rattle.halving.specs.Boxes.{boxes_of}
use Rattle.halving.specs.Lists.{numbers_of}
use Rattle.halving.specs.Halving.{list_after}
use Rattle.listing.specs.declared.Listing.{Listing}
use Rattle.listing.specs.Listing.{listing_by, list_status}
use Rattle.floodrafter_c.specs.declared.listed.Boxes.{Boxes}

abbrev pub numbers_listed : Checked Listing → Boxes
numbers_listed (Ok l) = record { fault = 0; line = 0; n = l.n; boxes = l.boxes }
numbers_listed (Err r) = record { fault = fault_number r.fault; line = r.line; n = 0; boxes = 0 }

-- the boxes of a job text, listed into `old`
pub record GivesList (t : List ℕ) (depth : ℤ) (old new : List ℤ) (r : Boxes) : Type 0 where
  pub answer : r ≡ numbers_listed
      (listing_by (list_status t depth (length old)) (job_in (read_job t))
      (length (boxes_of (job_in (read_job t)) (nat_abs depth))))
  pub list : new ≡ list_after (list_status t depth (length old))
      (numbers_of (job_in (read_job t)).head.n (boxes_of (job_in (read_job t)) (nat_abs depth))) old
