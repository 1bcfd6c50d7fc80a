-- A slot that is free, and slots as the last visit number grows.
use Prim.Native.Nat.{ℕ, ◌≤◌}
use native.Mathlib.Omega.{arith}
use mathlib.Core.Path.{◌≡◌, refl, sym, ◌∙◌}
use mathlib.Core.Bool.{Bool, true, false, cond, ◌&&◌, true≢false}
use mathlib.Core.List.{List}
use lib.Dec.{eqb, leb}
use borrow.Author.Tests.{eqb-true, eq-eqb}
use Rattle.job_form.specs.JobForm.{read_job}
use Rattle.result_form.specs.ResultForm.{read_result}
use Rattle.cells.specs.Cells.{number_at, text_at}
use Rattle.room_form.specs.declared.Room.{Room}
use Rattle.room_form.specs.Table.{reading_from, reading_most, job_from, job_most, taken_room, visit_in}
use Rattle.room_form.specs.Table.{is_visit, held_by, room_of, is_whole}
use Rattle.room_form.specs.Calls.{is_free, is_taken}
use Rattle.room_form.proofs.Visited.{Visited, taken-is, room-visited, visited-room, together, are-together}
use Rattle.faults.specs.Checked.{Checked}
use Rattle.jobs.specs.declared.Job.{Job}
use Rattle.jobs.specs.declared.Result.{Result}
use Rattle.std.specs.Prelude.{Ok, Err}

-- no text makes a slot free
not_free : (last : ℕ) (j : Checked Job) (r : Checked Result) → is_free (held_by last j r) ≡ false
unfolding held_by
not_free last (Err e) r = refl
not_free last (Ok j) (Err e) = refl
not_free last (Ok j) (Ok r) = go (is_visit last j r)
  where
    go : (b : Bool) → is_free (cond b (taken_room j r) Room.Broken) ≡ false
    go true = refl
    go false = refl

-- "free, which is that the length of its job text is 0"
pub free-told : (last : ℕ) (s : List ℕ) → is_free (room_of last s) ≡ eqb (number_at s job_from) 0
unfolding room_of
free-told last s =
    go (eqb (number_at s job_from) 0) (leb (number_at s reading_from) reading_most && leb (number_at s job_from)
    job_most)
  where
    go : (a b : Bool)
        → is_free (cond a Room.Free (cond b
        (held_by last (read_job (text_at s job_from)) (read_result (text_at s reading_from))) Room.Broken)) ≡ a
    go true b = refl
    go false true = not_free last _ _
    go false false = refl

pub no_length : (last : ℕ) (s : List ℕ) → is_free (room_of last s) ≡ true → number_at s job_from ≡ 0
no_length last s e = eqb-true (number_at s job_from) 0 (sym (free-told last s) ∙ e)

pub is_free_lem : (last : ℕ) (s : List ℕ) → number_at s job_from ≡ 0 → room_of last s ≡ Room.Free
unfolding room_of
is_free_lem last s e = rw (eq-eqb (number_at s job_from) 0 e) refl

-- a whole slot is free or taken
pub free-or-taken : {A : Type 0} (room : Room) → is_whole room ≡ true → (is_free room ≡ true → A)
    → (is_taken room ≡ true → A) → A
free-or-taken Room.Free e on_free on_taken = on_free refl
free-or-taken (Room.Taken v) e on_free on_taken = on_taken refl
free-or-taken Room.Broken e on_free on_taken = absurd (true≢false (sym e))

pub taken-room : (last : ℕ) (s : List ℕ) → is_taken (room_of last s) ≡ true
    → room_of last s ≡ taken_room (visit_in (room_of last s)).job (visit_in (room_of last s)).reading
taken-room last s = taken-is (room_of last s)

-- a visit stays one as later ones are handed out
pub visited-later : {last later : ℕ} {s : List ℕ} {j : _} {r : _} → last ≤ later → Visited last s j r
    → Visited later s j r
visited-later {last} {later} {s} {j} {r} h v =
    let with-last = together last j r v.visit in
    record {
      some = v.some;
      reading-fits = v.reading-fits;
      job-fits = v.job-fits;
      job = v.job;
      reading = v.reading;
      visit = are-together later j r (record {
        number = with-last.number;
        same = with-last.same;
        first = with-last.first;
        known = omega (arith, with-last.known, h);
        steps = with-last.steps;
      });
    }

-- and a whole slot is what it was
pub room-later : (last later : ℕ) (s : List ℕ) → last ≤ later → is_whole (room_of last s) ≡ true
    → room_of later s ≡ room_of last s
room-later last later s h e =
    free-or-taken (room_of last s) e
    (λ free. let none = no_length last s free in is_free_lem later s none ∙ sym (is_free_lem last s none))
    (λ taken. visited-room (visited-later h (room-visited last s taken)) ∙ sym (taken-room last s taken))
