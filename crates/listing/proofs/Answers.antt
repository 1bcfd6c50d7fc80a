-- The answers of a listing, and that its pieces can be written and make up its text.
use Prim.Native.Nat.{ℕ, ◌<◌}
use native.Mathlib.Omega.{arith}
use mathlib.Core.Path.{◌≡◌, refl, sym, ap}
use mathlib.Core.List.{List, ◌++◌}
use lib.IntN.{ℤ, pos, nat_abs}
use lib.ListN.{length, take, length-append}
use lib.Pow.{pow_mono}
use lib.Seq.{take_all}
use Rattle.sizes.specs.Sizes.{n_max, end_max}
use Rattle.integers.specs.Ranges.{Within}
use Rattle.lists.specs.Loops.{tab}
use Rattle.lists.proofs.Tab.{length-tab, get_or-tab}
use Rattle.intervals.specs.Places.{side_at}
use Rattle.intervals.specs.declared.Interval.{Interval}
use Rattle.digits.specs.Number.{long_max}
use Rattle.text.specs.Lists.{Below}
use Rattle.reading.proofs.NumberLines.{below-tab}
use Rattle.writing.proofs.Lists.{taken-first}
use Rattle.faults.specs.declared.Refusal.{Refusal}
use Rattle.faults.specs.Checked.{Checked}
use Rattle.faults.specs.Checks.{and_then}
use Rattle.faults.proofs.Laws.{then-done, then-value, then-refused}
use Rattle.jobs.specs.declared.Job.{Job}
use Rattle.checks.specs.Accepted.{Accepted}
use Rattle.checks.proofs.AcceptedLaws.{check_done}
use Rattle.slopes.specs.Ranges.{BoxIn}
use Rattle.step.specs.Values.{low_ends, high_ends}
use Rattle.job_form.specs.JobForm.{read_job}
use Rattle.halving.specs.Boxes.{Listed, boxes_of}
use Rattle.halving.specs.Lists.{numbers_of}
use Rattle.halving.specs.Halving.{halve_status, Halves}
use Rattle.halving.proofs.Lists.{numbers-length}
use Rattle.halving.proofs.Refusals.{depth-few}
use Rattle.halving.proofs.Answers.{few-boxes, job-fine, depth-done}
use Rattle.halving.proofs.Each.{listed_in}
use Rattle.listing.specs.declared.Listing.{Listing}
use Rattle.listing.specs.Lines.{EntryIn, head_lines, first_lines}
use Rattle.listing.specs.Listing.{listing_of, listing_text, ListsJob, list_status, ListsText}
use Rattle.listing.proofs.Entries.{box_at, box-among, low-at, high-at, first-lines}
use Rattle.std.specs.Prelude.{Ok, Err}

-- ---- the ends of a box in range are short
module _ {n : ℕ} (x : List Interval) (box : BoxIn n (side_at x)) where
  ends-short : (f : ℕ → ℤ) → ((k : ℕ) → k < n → Within (f k) end_max)
      → Below long_max (take n (tab n_max n (pos 0) f))
  ends-short f h =
      rw (taken-first n (tab n_max n (pos 0) f) (rw (length-tab (pos 0) n_max n f) box.places))
      (below-tab long_max n _
      (λ i l. rw (get_or-tab (pos 0) n_max n f (pos 0) i l box.places) (omega (arith, (h i l).abs))))

  low-short : Below long_max (take n (low_ends n x))
  low-short = ends-short _ (λ k l. (box.each k l).low)

  high-short : Below long_max (take n (high_ends n x))
  high-short = ends-short _ (λ k l. (box.each k l).high)

-- ---- the pieces of an accepted job's boxes
module _ (j : Job) (a : Accepted j) (depth : ℕ) (rest : List ℤ) where
  abbrev n : ℕ
  n = j.head.n

  abbrev bs : List Listed
  bs = boxes_of j depth

  entry_in : (i : ℕ) → i < length bs → EntryIn n (numbers_of n bs ++ rest) i
  entry_in i l =
      let box = listed_in j a (box_at bs i) depth (box-among bs i l) in
      record {
        few = a.few;
        inside = rw (length-append (numbers_of n bs) rest) (omega (arith, numbers-length n bs));
        low = rw (low-at n rest bs i l a.few) (low-short (box_at bs i).sides box);
        high = rw (high-at n rest bs i l a.few) (high-short (box_at bs i).sides box);
      }

  -- one after the other they are the text
  pub pieces_are : head_lines j.head.number (length bs) ++ first_lines n (numbers_of n bs ++ rest) (length bs)
      ≡ listing_text j depth
  unfolding listing_text
  pieces_are =
      ap (λ (t : List ℕ). head_lines j.head.number (length bs) ++ t)
      (rw (take_all (length bs) bs (omega arith)) at (first-lines n rest bs a.few (length bs) (omega arith)))

-- ---- of values
module _ (j : Job) (depth : ℤ) (old : List ℤ) {new : List ℤ} where
  pub job-refused : {e : Refusal} → Halves j depth old new (Err e) → ListsJob j depth old new (Err e)
  unfolding and_then
  job-refused h =
      let s = then-refused (halve_status j depth (length old)) _ (sym h.answer) in
      rw s record { answer = refl; list = rw s at h.list; readable = tt }

  pub job-listed : {boxes : ℕ} → Halves j depth old new (Ok boxes) → ListsJob j depth old new (Ok (listing_of j boxes))
  unfolding and_then
  job-listed h =
      let s = then-done (halve_status j depth (length old)) _ (sym h.answer) in
      let count = then-value (halve_status j depth (length old)) _ (sym h.answer) in
      let few = pow_mono (depth-few depth (depth-done j depth (length old) s)) in
      let list = rw s at h.list in
      rw s (record {
        answer = rw count refl;
        list = list;
        readable = record {
          few = omega (arith, count, few-boxes j (nat_abs depth), few);
          each = λ i l. rw list
              (entry_in j (check_done j (job-fine j depth (length old) s)) (nat_abs depth) _ i (rw count at l));
        };
      })

-- ---- of a job text
module _ (t : List ℕ) (depth : ℤ) (old : List ℤ) where
  pub text-refused : {e : Refusal} → Err e ≡ read_job t → ListsText t depth old old (Err e)
  unfolding list_status and_then
  text-refused w = rw (← w) record { answer = refl; list = refl; readable = tt }

  pub text-listed : {j : Job} {new : List ℤ} {r : Checked Listing} → Ok j ≡ read_job t
      → ListsJob j depth old new r → ListsText t depth old new r
  unfolding list_status and_then
  text-listed w h = rw (← w) h
