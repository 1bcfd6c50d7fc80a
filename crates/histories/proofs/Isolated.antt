-- A holder's room after a call: its own step moves it, and nothing else does.
use Prim.Native.Nat.{ℕ, zero, suc, ◌+◌, ◌<◌}
use native.Mathlib.Omega.{arith}
use mathlib.Core.Path.{◌≡◌, refl, sym, ap, ap₂, ◌∙◌}
use mathlib.Core.Bool.{Bool, true, false, cond, not, ◌&&◌, true≢false}
use mathlib.Core.List.{List}
use lib.ListN.{length}
use lib.Seq.{sets}
use lib.Dec.{eqb, ltb}
use borrow.Author.Tests.{eq-eqb, ne_eqb, lt-ltb}
use Rattle.faults.specs.declared.Fault.{Fault}
use Rattle.faults.specs.Checks.{is_bad, bad_unless, on_line, and_then}
use Rattle.faults.proofs.Laws.{not-bad}
use Rattle.jobs.specs.declared.Job.{Job}
use Rattle.jobs.specs.declared.Result.{Result}
use Rattle.result_form.specs.ResultShows.{show_result}
use Rattle.cells.specs.Cells.{cell, zeros}
use Rattle.visits.specs.Visits.{next_reading}
use Rattle.visits.proofs.Readings.{next-visit}
use Rattle.room_form.specs.declared.Room.{Room}
use Rattle.room_form.specs.Table.{visit_in, rooms_max, slot_from, slot_size, taken_room, room_at, whole}
use Rattle.room_form.specs.Calls.{is_free, first_from, lowest_free, open_status, opened, held_status, after_step}
use Rattle.room_form.specs.Calls.{finished, stepped, closed}
use Rattle.histories.specs.Histories.{Call, after, Holds, shows}
use Rattle.room_form.proofs.Whole.{whole_long}
use Rattle.room_form.proofs.Visited.{held_at}
use Rattle.histories.proofs.After.{close_other}
use Rattle.histories.proofs.Formed.{open-slot, opened-other, open-formed, moved-own, moved_other}
use Rattle.histories.proofs.Formed.{moved-formed, closed-formed}
use Rattle.std.specs.Prelude.{Ok}

-- ---- each call by its cases

pub open-cases : (t text : List ℕ) (P : List ℕ → Type 0) → P t → (open_status t text ≡ Ok tt → P (opened t text))
    → P (opened t text)
unfolding opened
open-cases t text P same changed = go (is_bad (open_status t text)) refl
  where
    go : (b : Bool) → is_bad (open_status t text) ≡ b → P (opened t text)
    go true e = rw e same
    go false e = changed (not-bad (open_status t text) e)

module _ (t : List ℕ) (slot visit : ℕ) (P : List ℕ → Type 0) (same : P t) where
  pub step-cases : (space : ℕ)
      → (is_bad (held_status t slot visit) ≡ false
      → ltb space (length (show_result (after_step t slot))) ≡ false → finished (room_at t slot) ≡ false
      → P (sets t (slot_from slot) (cell (show_result (after_step t slot)))))
      → P (stepped t slot visit space)
  unfolding stepped
  step-cases space changed =
      go (is_bad (held_status t slot visit)) (ltb space (length (show_result (after_step t slot))))
      (finished (room_at t slot)) refl refl refl
    where
      go : (a b c : Bool) → is_bad (held_status t slot visit) ≡ a
          → ltb space (length (show_result (after_step t slot))) ≡ b → finished (room_at t slot) ≡ c
          → P (cond a t (cond b t (cond c t (sets t (slot_from slot) (cell (show_result (after_step t slot)))))))
      go true b c p q w = same
      go false true c p q w = same
      go false false true p q w = same
      go false false false p q w = changed p q w

  pub close-cases : (is_bad (held_status t slot visit) ≡ false → P (sets t (slot_from slot) (zeros slot_size)))
      → P (closed t slot visit)
  unfolding closed
  close-cases changed = go (is_bad (held_status t slot visit)) refl
    where
      go : (a : Bool) → is_bad (held_status t slot visit) ≡ a
          → P (cond a t (sets t (slot_from slot) (zeros slot_size)))
      go true p = same
      go false p = changed p

-- "which .. every call leave[s] whole"
pub call-formed : (t : List ℕ) → whole t ≡ true → (c : Call) → whole (after t c) ≡ true
unfolding after
call-formed t e (Call.opens text) = open-cases t text (λ u. whole u ≡ true) e (open-formed t text)
call-formed t e (Call.steps slot visit space) =
    step-cases t slot visit (λ u. whole u ≡ true) e space (λ good fits left. moved-formed t slot visit good)
call-formed t e (Call.reads slot visit space) = e
call-formed t e (Call.closes slot visit) =
    close-cases t slot visit (λ u. whole u ≡ true) e (closed-formed t slot visit)

-- ---- the lowest free slot is free

first-has : (m : ℕ) (f : ℕ → Bool) (k : ℕ) → first_from m f k < k + m → f (first_from m f k) ≡ true
unfolding first_from
first-has zero f k l = absurd (omega arith)
first-has (suc m) f k l = go (f k) refl l (first-has m f (suc k))
  where
    go : (b : Bool) → f k ≡ b → cond b k (first_from m f (suc k)) < k + suc m
        → (first_from m f (suc k) < suc k + m → f (first_from m f (suc k)) ≡ true)
        → f (cond b k (first_from m f (suc k))) ≡ true
    go true e l rest = e
    go false e l rest = rest (omega arith)

pub lowest-is-free : (t : List ℕ) → lowest_free t < rooms_max → is_free (room_at t (lowest_free t)) ≡ true
lowest-is-free t l = first-has rooms_max (λ i. is_free (room_at t i)) 0 (omega arith)

-- ---- a holder

module _ (t : List ℕ) (k v : ℕ) (j : Job) (r : Result) (h : Holds t k v j r) where
  -- its own slot and visit are taken, and no other visit of its slot is
  status-by : (visit : ℕ) {b : Bool} → eqb v visit ≡ b → is_bad (held_status t k visit) ≡ not b
  unfolding bad_unless on_line and_then
  status-by visit {b} e =
      rw (h.is-whole, lt-ltb k rooms_max h.inside, h.room, h.visit, e) (go b)
    where
      go : (b : Bool) → is_bad (on_line (bad_unless b Fault.NotOpen) 0) ≡ not b
      go true = refl
      go false = refl

  pub own-good : is_bad (held_status t k v) ≡ false
  own-good = status-by v (eq-eqb v v refl)

  other-bad : (visit : ℕ) → (visit ≡ v → ⊥) → is_bad (held_status t k visit) ≡ true
  other-bad visit ne = status-by visit (ne_eqb v visit (λ e. ne (sym e)))

  -- a visit that is held and is not shown is in another slot
  not-shown : (slot visit : ℕ) → shows k v slot visit ≡ false → is_bad (held_status t slot visit) ≡ false → k ≡ slot → ⊥
  not-shown slot visit e good same =
      true≢false (sym (other-bad visit other) ∙ ap (λ (i : ℕ). is_bad (held_status t i visit)) same ∙ good)
    where
      other : visit ≡ v → ⊥
      other is = true≢false (sym (ap₂ ◌&&◌ (eq-eqb slot k (sym same)) (eq-eqb visit v is)) ∙ e)

  -- where its room is as it was
  same-room : (u : List ℕ) → whole u ≡ true → room_at u k ≡ room_at t k → Holds u k v j r
  same-room u e same = record { is-whole = e; inside = h.inside; room = same ∙ h.room; visit = h.visit }

  -- its reading after a step of its own
  abbrev after-own : List ℕ
  after-own = sets t (slot_from k) (cell (show_result (after_step t k)))

  pub moved_on : Holds after-own k v j (next_reading j r)
  moved_on = record {
    is-whole = moved-formed t k v own-good;
    inside = h.inside;
    room = moved-own t k v own-good
        ∙ ap (λ (room : Room).
        taken_room (visit_in room).job (next_reading (visit_in room).job (visit_in room).reading)) h.room;
    visit = next-visit j r ∙ h.visit;
  }

  -- a finished one stays
  pub stays-finished : finished (room_at t k) ≡ true → next_reading j r ≡ r
  unfolding next_reading
  stays-finished e = rw (sym (ap finished h.room) ∙ e) refl

  -- ---- one call

  pub open_kept : (text : List ℕ) → Holds (opened t text) k v j r
  open_kept text =
      open-cases t text (λ u. Holds u k v j r) h (λ done.
      same-room (opened t text) (open-formed t text done) (opened-other t text done k h.inside (not-lowest done)))
    where
      not-lowest : open_status t text ≡ Ok tt → k ≡ lowest_free t → ⊥
      not-lowest done e =
          let free = lowest-is-free t (open-slot t text done) in
          true≢false (sym free ∙ ap (λ (i : ℕ). is_free (room_at t i)) (sym e)
          ∙ ap (λ (room : Room). is_free room) h.room)

  -- a step that shows another slot or another visit
  pub step-apart : (slot visit space : ℕ) → shows k v slot visit ≡ false → Holds (stepped t slot visit space) k v j r
  step-apart slot visit space e =
      step-cases t slot visit (λ u. Holds u k v j r) h space (λ good fits left.
      same-room _ (moved-formed t slot visit good) (moved_other t slot visit good k (not-shown slot visit e good)))

  -- and a closing
  pub close-apart : (slot visit : ℕ) → shows k v slot visit ≡ false → Holds (closed t slot visit) k v j r
  close-apart slot visit e =
      close-cases t slot visit (λ u. Holds u k v j r) h (λ good.
      let at = held_at t slot visit good in
      same-room _ (closed-formed t slot visit good)
      (close_other t slot (whole_long t at.is-whole) at.inside k (not-shown slot visit e good)))
