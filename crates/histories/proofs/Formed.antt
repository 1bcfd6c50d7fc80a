-- The form of the table is kept by clearing and by every call.
use Prim.Native.Nat.{ℕ, zero, suc, ◌≤◌, ◌<◌}
use native.Mathlib.Omega.{arith}
use native.Mathlib.Numerals.{add-one}
use mathlib.Core.Path.{◌≡◌, refl, sym, ap, ◌∙◌, subst}
use mathlib.Core.Bool.{Bool, true, false}
use mathlib.Core.List.{List}
use lib.ListN.{length}
use lib.Seq.{sets, length-sets}
use lib.Dec.{ltb}
use borrow.Author.Tests.{le-leb, ltb-true}
use Rattle.sizes.specs.Sizes.{visit_max}
use Rattle.lists.specs.Loops.{all_b}
use Rattle.lists.proofs.All.{all_none, all_more}
use Rattle.digits.proofs.Cases.{same_or}
use Rattle.faults.specs.declared.Fault.{Fault}
use Rattle.faults.specs.Checked.{status_of}
use Rattle.faults.specs.Checks.{is_bad, bad_unless, on_line, and_then}
use Rattle.faults.proofs.Laws.{unless-fine, fine-line, done_first, done_next}
use Rattle.jobs.specs.declared.Job.{Job}
use Rattle.jobs.specs.declared.Result.{Result}
use Rattle.checks.specs.Answered.{job_in}
use Rattle.job_form.specs.JobForm.{read_job}
use Rattle.result_form.specs.ResultShows.{show_result, live}
use Rattle.cells.specs.Cells.{cell, zeros}
use Rattle.visits.specs.Visits.{opened_as, next_reading, Stands}
use Rattle.visits.proofs.Readings.{few, next-stands, next-live, next-visit}
use Rattle.room_form.specs.declared.Room.{Room}
use Rattle.room_form.specs.Table.{visit_in, rooms_max, table_size, slot_from, slot_size, last_in, taken_room, is_visit}
use Rattle.room_form.specs.Table.{room_at, is_whole, whole}
use Rattle.room_form.specs.Calls.{unless, table_status, cleared, lowest_free, next_visit, open_status, opened}
use Rattle.room_form.specs.Calls.{with_visitor}
use Rattle.room_form.specs.Calls.{held_status}
use Rattle.room_form.proofs.Whole.{by-rooms, whole_long, whole-last, whole_each}
use Rattle.room_form.proofs.Visited.{visited-together, are-together, held_at, at-visited, at-stands}
use Rattle.room_form.proofs.Visited.{reading-exactly}
use Rattle.histories.proofs.After.{step-own, step_other, step-last, close-own, close_other, close-last}
use Rattle.histories.proofs.After.{clear-last, clear_room, open_own, open-other, open-last}
use Rattle.std.specs.Prelude.{Ok}

all_of : (n : ℕ) (p : ℕ → Bool) → ((i : ℕ) → i < n → p i ≡ true) → all_b n p ≡ true
all_of zero p h = all_none p
all_of (suc n) p h =
    subst (λ m. all_b m p ≡ true) (add-one n)
    (all_more p n (all_of n p (λ i l. h i (omega arith))) (h n (omega arith)))

-- the form, from its parts
pub formed : (t : List ℕ) → table_size ≤ length t → last_in t ≤ visit_max
    → ((k : ℕ) → k < rooms_max → is_whole (room_at t k) ≡ true) → whole t ≡ true
formed t long last each = by-rooms t long last ∙ all_of rooms_max _ each

-- where every room is the old one or a whole one
formed-from : (t u : List ℕ) (k : ℕ) → length u ≡ length t → whole t ≡ true → last_in u ≤ visit_max
    → is_whole (room_at u k) ≡ true → ((i : ℕ) → i < rooms_max → (i ≡ k → ⊥) → room_at u i ≡ room_at t i)
    → whole u ≡ true
formed-from t u k long e last own other =
    formed u (omega (arith, whole_long t e, long)) last (λ i l.
    same_or i k (λ same. subst (λ m. is_whole (room_at u m) ≡ true) (sym same) own) (λ ne.
    ap (λ (r : Room). is_whole r) (other i l ne) ∙ whole_each t e i l))

-- ---- clearing

pub clear-formed : (t : List ℕ) → table_size ≤ length t → whole (cleared t) ≡ true
unfolding cleared bad_unless on_line
clear-formed t long =
    rw (le-leb table_size (length t) long)
    (formed (sets t 0 (zeros table_size)) (omega (arith, length-sets t 0 (zeros table_size)))
    (omega (arith, clear-last t long))
    (λ k l. ap (λ (r : Room). is_whole r) (clear_room t long k l)))

-- ---- opening

module _ (t text : List ℕ) (done : open_status t text ≡ Ok tt) where
  job-next : and_then (status_of (read_job text))
      (and_then (unless (ltb (lowest_free t) rooms_max) Fault.Full) (unless (ltb (last_in t) visit_max) Fault.Visits))
      ≡ Ok tt
  job-next = done_next (table_status t) _ done

  pub open-whole : whole t ≡ true
  open-whole = unless-fine _ Fault.Table (fine-line _ 0 (done_first _ _ done))

  pub open-read : status_of (read_job text) ≡ Ok tt
  open-read = done_first _ _ job-next

  pub open-slot : lowest_free t < rooms_max
  open-slot =
      ltb-true (lowest_free t) rooms_max
      (unless-fine _ Fault.Full (fine-line _ 0 (done_first _ _ (done_next (status_of (read_job text)) _ job-next))))

  pub open-left : last_in t < visit_max
  open-left =
      ltb-true (last_in t) visit_max
      (unless-fine _ Fault.Visits (fine-line _ 0 (done_next _ _ (done_next (status_of (read_job text)) _ job-next))))

  pub open_is : opened t text
      ≡ with_visitor t (lowest_free t) (next_visit t)
      (show_result (opened_as (next_visit t) (job_in (read_job text)))) text
  unfolding opened
  open_is = rw done refl

  -- the room that is opened, and every other
  pub opened-own : room_at (opened t text) (lowest_free t)
      ≡ taken_room (job_in (read_job text)) (opened_as (next_visit t) (job_in (read_job text)))
  opened-own =
      ap (λ (u : List ℕ). room_at u (lowest_free t)) open_is
      ∙ open_own t text (lowest_free t) (whole_long t open-whole) open-slot open-read open-left

  pub opened-other : (i : ℕ) → i < rooms_max → (i ≡ lowest_free t → ⊥) → room_at (opened t text) i ≡ room_at t i
  opened-other i l ne =
      ap (λ (u : List ℕ). room_at u i) open_is
      ∙ open-other t text (lowest_free t) (whole_long t open-whole) open-slot open-read open-left i ne
      (whole_each t open-whole i l)

  pub opened-last : last_in (opened t text) ≡ next_visit t
  opened-last =
      ap last_in open_is ∙ open-last t text (lowest_free t) (whole_long t open-whole) open-slot open-read open-left

  pub open-formed : whole (opened t text) ≡ true
  open-formed =
      formed-from t (opened t text) (lowest_free t) open-length open-whole
      (omega (arith, opened-last, open-left)) (ap (λ (r : Room). is_whole r) opened-own) opened-other
    where
      open-length : length (opened t text) ≡ length t
      open-length = ap length open_is ∙ rw (length-sets, length-sets, length-sets) refl

-- ---- a visit that is held

module _ (t : List ℕ) (slot visit : ℕ) (good : is_bad (held_status t slot visit) ≡ false) where
  abbrev j : Job
  j = (visit_in (room_at t slot)).job

  abbrev r : Result
  r = (visit_in (room_at t slot)).reading

  abbrev q : Result
  q = next_reading j r

  e : whole t ≡ true
  e = (held_at t slot visit good).is-whole

  inside : slot < rooms_max
  inside = (held_at t slot visit good).inside

  stands : Stands j r
  stands = at-stands t slot visit good

  next-visits : is_visit (last_in t) j q ≡ true
  next-visits =
      let was = visited-together (at-visited t slot visit good) in
      let now = next-stands j r stands in
      let same = next-visit j r in
      are-together (last_in t) j q (record {
        number = now.number;
        same = now.same;
        first = omega (arith, same, was.first);
        known = omega (arith, same, was.known);
        steps = now.steps;
      })

  alive : live q ≡ q
  alive = next-live j r (few j r stands) (reading-exactly (at-visited t slot visit good)).1

  -- the reading in the table
  abbrev moved : List ℕ
  moved = sets t (slot_from slot) (cell (show_result q))

  pub moved-own : room_at moved slot ≡ taken_room j q
  moved-own =
      step-own t slot (whole_long t e) inside j r q (at-visited t slot visit good) (next-stands j r stands).reading
      alive next-visits

  pub moved_other : (i : ℕ) → (i ≡ slot → ⊥) → room_at moved i ≡ room_at t i
  moved_other =
      step_other t slot (whole_long t e) inside j r q (at-visited t slot visit good) (next-stands j r stands).reading
      alive next-visits

  pub moved-last : last_in moved ≡ last_in t
  moved-last =
      step-last t slot (whole_long t e) inside j r q (at-visited t slot visit good) (next-stands j r stands).reading
      alive next-visits

  pub moved-formed : whole moved ≡ true
  moved-formed =
      formed-from t moved slot (length-sets t (slot_from slot) (cell (show_result q))) e
      (omega (arith, moved-last, whole-last t e)) (ap (λ (r : Room). is_whole r) moved-own)
      (λ i l ne. moved_other i ne)

  pub closed-formed : whole (sets t (slot_from slot) (zeros slot_size)) ≡ true
  closed-formed =
      formed-from t (sets t (slot_from slot) (zeros slot_size)) slot
      (length-sets t (slot_from slot) (zeros slot_size)) e
      (omega (arith, close-last t slot (whole_long t e) inside, whole-last t e))
      (ap (λ (r : Room). is_whole r) (close-own t slot (whole_long t e) inside))
      (λ i l ne. close_other t slot (whole_long t e) inside i ne)
