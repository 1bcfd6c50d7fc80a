-- Every room after each call.
use Prim.Native.Nat.{ℕ, ◌+◌, ◌≤◌, ◌<◌}
use native.Mathlib.Omega.{arith}
use mathlib.Core.Path.{◌≡◌, refl, ap, ap₂, ◌∙◌, subst}
use mathlib.Core.Bool.{true}
use mathlib.Core.List.{List}
use lib.ListN.{length}
use lib.Seq.{sets}
use Rattle.sizes.specs.Sizes.{visit_max}
use Rattle.faults.specs.Checked.{status_of}
use Rattle.jobs.specs.declared.Job.{Job}
use Rattle.jobs.specs.declared.Result.{Result}
use Rattle.checks.specs.Checks.{check_job}
use Rattle.checks.specs.CheckResult.{check_result}
use Rattle.run.specs.Job.{result_of}
use Rattle.checks.specs.Answered.{job_in}
use Rattle.job_form.specs.JobForm.{read_job}
use Rattle.job_form.proofs.Answers as job
use Rattle.result_form.specs.ResultShows.{show_result, live}
use Rattle.cells.specs.Cells.{number_at, number_bytes, cell, zeros}
use Rattle.cells.proofs.Cells.{number-alone, number_in, cell-length, zeros-length, wiped-number}
use Rattle.visits.specs.Visits.{opened_as}
use Rattle.visits.proofs.Readings.{opened-live, opened-right}
use Rattle.room_form.specs.declared.Room.{Room}
use Rattle.room_form.specs.Table.{rooms_max, job_from, slot_size, table_size, slot_from, slot_in}
use Rattle.room_form.specs.Table.{last_in, taken_room, is_visit, room_of, room_at, is_whole}
use Rattle.room_form.specs.Calls.{next_visit, with_visitor}
use Rattle.room_form.proofs.Visited.{Visited, visited-room, are-together}
use Rattle.room_form.proofs.Free.{is_free_lem, room-later}
use Rattle.room_form.proofs.PutReading.{reading-short}
use Rattle.room_form.proofs.Opening.{job-short}
use Rattle.histories.proofs.Kept.{other-slot, own-slot, same-last, head-set, slot-long, read_again}
use Rattle.histories.proofs.Kept.{visitor-there}
use Rattle.std.specs.Prelude.{Ok}

-- a slot's first byte
first_byte : (k : ℕ) → slot_from k + 0 ≡ slot_from k
first_byte k = omega arith

-- ---- what is set at a slot's first byte

module _ (t : List ℕ) (k : ℕ) (xs : List ℕ) (room : length xs ≤ slot_size) where
  abbrev u : List ℕ
  u = sets t (slot_from k) xs

  at_first : sets t (slot_from k + 0) xs ≡ u
  at_first = ap (λ (p : ℕ). sets t p xs) (first_byte k)

  set_last : last_in u ≡ last_in t
  set_last = subst (λ y. last_in y ≡ last_in t) at_first (same-last t k 0 xs (omega arith))

  set_apart : (i : ℕ) → (i ≡ k → ⊥) → slot_in u i ≡ slot_in t i
  set_apart i ne = subst (λ y. slot_in y i ≡ slot_in t i) at_first (other-slot t k 0 xs (omega arith) i ne)

  set_other : (i : ℕ) → (i ≡ k → ⊥) → room_at u i ≡ room_at t i
  set_other i ne = ap₂ room_of set_last (set_apart i ne)

  set_own : slot_in u k ≡ sets (slot_in t k) 0 xs
  set_own = subst (λ y. slot_in y k ≡ sets (slot_in t k) 0 xs) at_first (own-slot t k 0 xs (omega arith))

-- ---- a step

module _ (t : List ℕ) (k : ℕ) (long : table_size ≤ length t) (live-slot : k < rooms_max) (j : Job) (was r : Result)
    (v : Visited (last_in t) (slot_in t k) j was) (right : check_result r ≡ Ok tt) (alive : live r ≡ r)
    (visit : is_visit (last_in t) j r ≡ true) where
  fits : length (cell (show_result r)) ≤ slot_size
  fits = omega (arith, cell-length (show_result r), reading-short r right)

  pub step-own : room_at (sets t (slot_from k) (cell (show_result r))) k ≡ taken_room j r
  step-own =
      ap₂ room_of (set_last t k (cell (show_result r)) fits) (set_own t k (cell (show_result r)) fits)
      ∙ visited-room (read_again (slot_in t k) j r (slot-long t k long live-slot) right alive v visit)

  pub step_other : (i : ℕ) → (i ≡ k → ⊥) → room_at (sets t (slot_from k) (cell (show_result r))) i ≡ room_at t i
  step_other = set_other t k (cell (show_result r)) fits

  pub step-last : last_in (sets t (slot_from k) (cell (show_result r))) ≡ last_in t
  step-last = set_last t k (cell (show_result r)) fits

-- ---- closing

module _ (t : List ℕ) (k : ℕ) (long : table_size ≤ length t) (live-slot : k < rooms_max) where
  zeros-fit : length (zeros slot_size) ≤ slot_size
  zeros-fit = omega (arith, zeros-length slot_size)

  pub close-own : room_at (sets t (slot_from k) (zeros slot_size)) k ≡ Room.Free
  close-own =
      is_free_lem _ _ (number_in (sets t (slot_from k) (zeros slot_size)) (slot_from k) slot_size job_from (omega arith)
      ∙ wiped-number t (slot_from k) slot_size job_from (omega arith) (omega arith))

  pub close_other : (i : ℕ) → (i ≡ k → ⊥) → room_at (sets t (slot_from k) (zeros slot_size)) i ≡ room_at t i
  close_other = set_other t k (zeros slot_size) zeros-fit

  pub close-last : last_in (sets t (slot_from k) (zeros slot_size)) ≡ last_in t
  close-last = set_last t k (zeros slot_size) zeros-fit

-- ---- clearing

module _ (t : List ℕ) (long : table_size ≤ length t) where
  pub clear-last : last_in (sets t 0 (zeros table_size)) ≡ 0
  clear-last = wiped-number t 0 table_size 0 (omega arith) (omega arith)

  pub clear_room : (k : ℕ) → k < rooms_max → room_at (sets t 0 (zeros table_size)) k ≡ Room.Free
  clear_room k l =
      let place : slot_from k + job_from ≡ 0 + (slot_from k + job_from) = omega arith in
      is_free_lem _ _ (number_in (sets t 0 (zeros table_size)) (slot_from k) slot_size job_from (omega arith)
      ∙ ap (number_at (sets t 0 (zeros table_size))) place
      ∙ wiped-number t 0 table_size (slot_from k + job_from) (omega arith) (omega arith))

-- ---- opening

module _ (t text : List ℕ) (k : ℕ) (long : table_size ≤ length t) (live-slot : k < rooms_max)
    (read : status_of (read_job text) ≡ Ok tt) (left : last_in t < visit_max) where
  abbrev visit : ℕ
  visit = next_visit t

  abbrev j : Job
  j = (job_in (read_job text))

  abbrev r : Result
  r = opened_as visit j

  checked : check_job j ≡ Ok tt
  checked = job.read-checked text read

  right : check_result r ≡ Ok tt
  right = opened-right j checked visit (omega arith)

  -- the table with its number, and with the reading too
  abbrev numbered : List ℕ
  numbered = sets t 0 (number_bytes visit)

  abbrev reading : List ℕ
  reading = sets numbered (slot_from k) (cell (show_result r))

  reading-fits : length (cell (show_result r)) ≤ slot_size
  reading-fits = omega (arith, cell-length (show_result r), reading-short r right)

  text-fits : job_from + length (cell text) ≤ slot_size
  text-fits = omega (arith, cell-length text, job-short text read)

  abbrev after : List ℕ
  after = with_visitor t k visit (show_result r) text

  number-there : last_in numbered ≡ visit
  number-there = number-alone t 0 visit (omega arith) (omega arith)

  pub open-last : last_in after ≡ visit
  open-last =
      same-last reading k job_from (cell text) text-fits
      ∙ set_last numbered k (cell (show_result r)) reading-fits ∙ number-there

  head-same : (i : ℕ) → slot_in numbered i ≡ slot_in t i
  unfolding number_bytes
  head-same i = head-set t (number_bytes visit) i (omega arith)

  own-bytes : slot_in after k ≡ sets (sets (slot_in t k) 0 (cell (show_result r))) job_from (cell text)
  own-bytes =
      own-slot reading k job_from (cell text) text-fits
      ∙ ap (λ (s : List ℕ). sets s job_from (cell text))
      (set_own numbered k (cell (show_result r)) reading-fits
      ∙ ap (λ (s : List ℕ). sets s 0 (cell (show_result r))) (head-same k))

  -- the reading is that of the visit just handed out
  belongs : is_visit visit j r ≡ true
  unfolding result_of
  belongs = are-together visit j r (record {
    number = refl;
    same = refl;
    first = omega arith;
    known = omega arith;
    steps = omega arith;
  })

  pub open_own : room_at after k ≡ taken_room j r
  open_own =
      ap₂ room_of open-last own-bytes
      ∙ visited-room
      (visitor-there (slot_in t k) j r (slot-long t k long live-slot) right (opened-live j checked visit) text
      (job.whole text read) belongs)

  pub open-other : (i : ℕ) → (i ≡ k → ⊥) → is_whole (room_at t i) ≡ true → room_at after i ≡ room_at t i
  open-other i ne whole =
      ap₂ room_of open-last
      (other-slot reading k job_from (cell text) text-fits i ne
      ∙ set_apart numbered k (cell (show_result r)) reading-fits i ne
      ∙ head-same i)
      ∙ room-later (last_in t) visit (slot_in t i) (omega arith) whole
