-- A slot that holds a visit: what is known of its two texts.
use Prim.Native.Nat.{ℕ, ◌≤◌, ◌<◌}
use mathlib.Core.Path.{◌≡◌, refl, sym}
use mathlib.Core.Bool.{Bool, true, false, cond, ◌&&◌, true≢false}
use mathlib.Core.List.{List}
use lib.Dec.{eqb, leb, ltb}
use borrow.Author.Tests.{eqb-true, eqb-false, eq-eqb, ne_eqb, leb-true, le-leb, ltb-true}
use Rattle.faults.specs.declared.Fault.{Fault}
use Rattle.faults.specs.Checked.{Checked, refused}
use Rattle.faults.specs.Checks.{is_bad, bad_unless, on_line, and_then}
use Rattle.faults.proofs.Laws.{not-bad, unless-fine, fine-line, done_first, done_next}
use Rattle.jobs.specs.declared.Job.{Job}
use Rattle.jobs.specs.declared.Result.{Result}
use Rattle.job_form.specs.JobForm.{read_job}
use Rattle.job_form.proofs.Answers as job
use Rattle.result_form.specs.ResultForm.{read_result}
use Rattle.result_form.specs.ResultShows.{show_result, live}
use Rattle.result_form.proofs.Answers as result
use Rattle.cells.specs.Cells.{number_at, text_at}
use Rattle.visits.specs.Visits.{Stands}
use Rattle.room_form.specs.declared.Visit.{Visit}
use Rattle.room_form.specs.declared.Room.{Room}
use Rattle.room_form.specs.Table.{rooms_max, reading_from, reading_most, job_from, job_most}
use Rattle.room_form.specs.Table.{taken_room, visit_in, is_visit, held_by, room_of, last_in, slot_in, room_at, whole}
use Rattle.room_form.specs.Calls.{table_status, is_taken, held_status}
use Rattle.term_checks.proofs.RangeLaws.{and_left, and_right}
use Rattle.std.specs.Prelude.{Ok, Err}

-- slot s holds a visit of job j with reading r, where the last visit number is `last`
pub record Visited (last : ℕ) (s : List ℕ) (j : Job) (r : Result) : Type 0 where
  pub some : number_at s job_from ≡ 0 → ⊥
  pub reading-fits : number_at s reading_from ≤ reading_most
  pub job-fits : number_at s job_from ≤ job_most
  pub job : read_job (text_at s job_from) ≡ Ok j
  pub reading : read_result (text_at s reading_from) ≡ Ok r
  pub visit : is_visit last j r ≡ true

-- ---- from the room to what is known

-- a slot that is taken holds its visit
pub taken-is : (room : Room) → is_taken room ≡ true → room ≡ taken_room (visit_in room).job (visit_in room).reading
taken-is Room.Free e = absurd (true≢false (sym e))
taken-is (Room.Taken v) e = refl
taken-is Room.Broken e = absurd (true≢false (sym e))

-- both texts, where they make a visit
record Both (last : ℕ) (j : Checked Job) (r : Checked Result) (v : Visit) : Type 0 where
  job : j ≡ Ok v.job
  reading : r ≡ Ok v.reading
  together : is_visit last v.job v.reading ≡ true

by-texts : (last : ℕ) (j : Checked Job) (r : Checked Result) → is_taken (held_by last j r) ≡ true
    → Both last j r (visit_in (held_by last j r))
unfolding held_by
by-texts last (Err e) r taken = absurd (true≢false (sym taken))
by-texts last (Ok j) (Err e) taken = absurd (true≢false (sym taken))
by-texts last (Ok j) (Ok r) taken = go (is_visit last j r) refl taken
  where
    go : (b : Bool) → is_visit last j r ≡ b → is_taken (cond b (taken_room j r) Room.Broken) ≡ true
        → Both last (Ok j) (Ok r) (visit_in (cond b (taken_room j r) Room.Broken))
    go true e taken = record { job = refl; reading = refl; together = e }
    go false e taken = absurd (true≢false (sym taken))

pub room-visited : (last : ℕ) (s : List ℕ) → is_taken (room_of last s) ≡ true
    → Visited last s (visit_in (room_of last s)).job (visit_in (room_of last s)).reading
unfolding room_of
room-visited last s e =
    go (eqb (number_at s job_from) 0) (leb (number_at s reading_from) reading_most)
    (leb (number_at s job_from) job_most)
    refl refl refl e
  where
    go : (a b c : Bool) → eqb (number_at s job_from) 0 ≡ a → leb (number_at s reading_from) reading_most ≡ b
        → leb (number_at s job_from) job_most ≡ c
        → is_taken (cond a Room.Free (cond (b && c)
        (held_by last (read_job (text_at s job_from)) (read_result (text_at s reading_from))) Room.Broken)) ≡ true
        → Visited last s
        (visit_in (cond a Room.Free (cond (b && c)
        (held_by last (read_job (text_at s job_from)) (read_result (text_at s reading_from))) Room.Broken))).job
        (visit_in (cond a Room.Free (cond (b && c)
        (held_by last (read_job (text_at s job_from)) (read_result (text_at s reading_from))) Room.Broken))).reading
    go true b c p q w e = absurd (true≢false (sym e))
    go false false c p q w e = absurd (true≢false (sym e))
    go false true false p q w e = absurd (true≢false (sym e))
    go false true true p q w e =
        let both = by-texts last (read_job (text_at s job_from)) (read_result (text_at s reading_from)) e in
        record {
          some = eqb-false (number_at s job_from) 0 p;
          reading-fits = leb-true (number_at s reading_from) reading_most q;
          job-fits = leb-true (number_at s job_from) job_most w;
          job = both.job;
          reading = both.reading;
          visit = both.together;
        }

-- ---- and back

pub visited-room : {last : ℕ} {s : List ℕ} {j : Job} {r : Result} → Visited last s j r → room_of last s ≡ taken_room j r
unfolding room_of held_by
visited-room {last} {s} {j} {r} v =
    rw (
      ne_eqb (number_at s job_from) 0 v.some,
      le-leb (number_at s reading_from) reading_most v.reading-fits,
      le-leb (number_at s job_from) job_most v.job-fits,
      v.job,
      v.reading,
      v.visit,
    )
    refl

-- ---- a visit that is held

pub record Together (last : ℕ) (j : Job) (r : Result) : Type 0 where
  pub number : r.number ≡ j.head.number
  pub same : r.n ≡ j.head.n
  pub first : 1 ≤ r.visit
  pub known : r.visit ≤ last
  pub steps : r.steps ≤ j.steps

pub together : (last : ℕ) (j : Job) (r : Result) → is_visit last j r ≡ true → Together last j r
unfolding is_visit
together last j r e =
    let rest = and_right (eqb r.number j.head.number) _ e in
    let more = and_right (eqb r.n j.head.n) _ rest in
    let visit = and_left (leb 1 r.visit && leb r.visit last) _ more in
    record {
      number = eqb-true r.number j.head.number (and_left _ _ e);
      same = eqb-true r.n j.head.n (and_left _ _ rest);
      first = leb-true 1 r.visit (and_left _ _ visit);
      known = leb-true r.visit last (and_right (leb 1 r.visit) _ visit);
      steps = leb-true r.steps j.steps (and_right (leb 1 r.visit && leb r.visit last) _ more);
    }

pub are-together : (last : ℕ) (j : Job) (r : Result) → Together last j r → is_visit last j r ≡ true
unfolding is_visit
are-together last j r h =
    rw (
      eq-eqb r.number j.head.number h.number,
      eq-eqb r.n j.head.n h.same,
      le-leb 1 r.visit h.first,
      le-leb r.visit last h.known,
      le-leb r.steps j.steps h.steps,
    )
    refl

module _ {last : ℕ} {s : List ℕ} {j : Job} {r : Result} (v : Visited last s j r) where
  pub visited-together : Together last j r
  visited-together = together last j r v.visit

  pub reading-exactly : (show_result r ≡ text_at s reading_from) × (live r ≡ r)
  reading-exactly = let is = (result.exactly (text_at s reading_from) r).0 v.reading in (is.0, is.2)

  pub visited-stands : Stands j r
  visited-stands = record {
    job = ((job.exactly (text_at s job_from) j).0 v.job).1;
    reading = ((result.exactly (text_at s reading_from) r).0 v.reading).1;
    number = visited-together.number;
    same = visited-together.same;
    steps = visited-together.steps;
  }

-- "first 16", whatever is shown
pub held-no-table : (t : List ℕ) (slot visit : ℕ) → whole t ≡ false
    → held_status t slot visit ≡ refused Fault.Table 0
unfolding bad_unless on_line and_then
held-no-table t slot visit e = rw e refl

pub record HeldAt (t : List ℕ) (slot visit : ℕ) : Type 0 where
  pub is-whole : whole t ≡ true
  pub inside : slot < rooms_max
  pub taken : is_taken (room_at t slot) ≡ true
  pub is-visit : (visit_in (room_at t slot)).reading.visit ≡ visit

pub held_at : (t : List ℕ) (slot visit : ℕ) → is_bad (held_status t slot visit) ≡ false → HeldAt t slot visit
held_at t slot visit e =
    let done = not-bad (held_status t slot visit) e in
    let held = unless-fine _ Fault.NotOpen (fine-line _ 0 (done_next (table_status t) _ done)) in
    let room = and_right (ltb slot rooms_max) _ held in
    record {
      is-whole = unless-fine _ Fault.Table (fine-line _ 0 (done_first _ _ done));
      inside = ltb-true slot rooms_max (and_left _ _ held);
      taken = and_left _ _ room;
      is-visit =
          eqb-true (visit_in (room_at t slot)).reading.visit visit (and_right (is_taken (room_at t slot)) _ room);
    }

-- what the code knows of a visit that is held
module _ (t : List ℕ) (slot visit : ℕ) (e : is_bad (held_status t slot visit) ≡ false) where
  pub at-visited : Visited (last_in t) (slot_in t slot) (visit_in (room_at t slot)).job
      (visit_in (room_at t slot)).reading
  at-visited = room-visited (last_in t) (slot_in t slot) (held_at t slot visit e).taken

  pub at-stands : Stands (visit_in (room_at t slot)).job (visit_in (room_at t slot)).reading
  at-stands = visited-stands at-visited
