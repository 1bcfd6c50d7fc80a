-- A slot that does not hold a visit handed out before never holds it again, until the table is cleared.
use Prim.Native.Nat.{ℕ, ◌≤◌, ◌<◌}
use native.Mathlib.Omega.{arith}
use mathlib.Core.Path.{◌≡◌, refl, sym, ap, ◌∙◌}
use mathlib.Core.Bool.{Bool, true, false, not, ◌&&◌}
use mathlib.Core.List.{List, [], ◌∷◌}
use lib.Seq.{sets}
use lib.Dec.{eqb, ltb}
use borrow.Author.Tests.{lt-ltb, le-ltb}
use Rattle.digits.proofs.Cases.{either, same_or}
use Rattle.faults.specs.declared.Fault.{Fault}
use Rattle.faults.specs.Checks.{is_bad, bad_unless, on_line, and_then}
use Rattle.cells.specs.Cells.{cell, zeros}
use Rattle.result_form.specs.ResultShows.{show_result}
use Rattle.visits.proofs.Readings.{next-visit}
use Rattle.room_form.specs.declared.Room.{Room}
use Rattle.room_form.specs.Table.{visit_in, rooms_max, slot_from, slot_size, last_in, room_at, whole}
use Rattle.room_form.specs.Calls.{lowest_free, open_status, opened, holds, held_status, after_step}
use Rattle.histories.specs.Histories.{Call, after, after_all}
use Rattle.room_form.proofs.Whole.{whole_long}
use Rattle.room_form.proofs.Visited.{held_at}
use Rattle.room_form.proofs.Opening.{next-new}
use Rattle.histories.proofs.After.{close-own, close_other, close-last}
use Rattle.histories.proofs.Formed.{opened-own, opened-other, opened-last}
use Rattle.histories.proofs.Formed.{moved-own, moved_other, moved-last}
use Rattle.histories.proofs.Isolated.{open-cases, step-cases, close-cases}
use Rattle.std.specs.Prelude.{Ok}

-- slot k is none, or does not hold visit v
record Gone (t : List ℕ) (k v : ℕ) : Type 0 where
  handed : v ≤ last_in t
  gone : k < rooms_max → holds (room_at t k) v ≡ false

status-is : (t : List ℕ) (k v : ℕ) → whole t ≡ true
    → is_bad (held_status t k v) ≡ not (ltb k rooms_max && holds (room_at t k) v)
unfolding bad_unless on_line and_then
status-is t k v e = rw e (go (ltb k rooms_max && holds (room_at t k) v))
  where
    go : (b : Bool) → is_bad (on_line (bad_unless b Fault.NotOpen) 0) ≡ not b
    go true = refl
    go false = refl

gone-refused : (t : List ℕ) (k v : ℕ) → Gone t k v → is_bad (held_status t k v) ≡ true
unfolding bad_unless on_line and_then
gone-refused t k v g = by (whole t) refl
  where
    by : (b : Bool) → whole t ≡ b → is_bad (held_status t k v) ≡ true
    by false e = rw e refl
    by true e =
        status-is t k v e
        ∙ either k rooms_max (λ l. rw (lt-ltb k rooms_max l, g.gone l) refl) (λ l. rw (le-ltb k rooms_max l) refl)

refused-gone : (t : List ℕ) (k v : ℕ) → whole t ≡ true → v ≤ last_in t → is_bad (held_status t k v) ≡ true → Gone t k v
refused-gone t k v e h bad = record {
  handed = h;
  gone = λ l.
      not-not _
      (sym (ap (λ (b : Bool). not (b && holds (room_at t k) v)) (lt-ltb k rooms_max l)) ∙ sym (status-is t k v e)
      ∙ bad);
}
  where
    not-not : (b : Bool) → not b ≡ true → b ≡ false
    not-not true e = sym e
    not-not false e = refl

-- ---- one call

module _ (t : List ℕ) (k v : ℕ) (g : Gone t k v) where
  abbrev Is : List ℕ → Type 0
  Is u = Gone u k v

  -- a room as it was
  as_before : (u : List ℕ) → last_in t ≤ last_in u → (k < rooms_max → room_at u k ≡ room_at t k) → Is u
  as_before u last same = record {
    handed = omega (arith, g.handed, last);
    gone = λ l. ap (λ (room : Room). holds room v) (same l) ∙ g.gone l;
  }

  open_gone : (text : List ℕ) → open_status t text ≡ Ok tt → Is (opened t text)
  open_gone text done =
      let last = opened-last t text done in
      same_or k (lowest_free t) (λ e. record {
        handed = omega (arith, last, g.handed);
        gone = λ l.
            ap (λ (i : ℕ). holds (room_at (opened t text) i) v) e
            ∙ ap (λ (room : Room). holds room v) (opened-own t text done)
            ∙ next-new t v g.handed;
      }) (λ ne. as_before (opened t text) (omega (arith, last)) (λ l. opened-other t text done k l ne))

  step_gone : (slot visit : ℕ) (good : is_bad (held_status t slot visit) ≡ false)
      → Is (sets t (slot_from slot) (cell (show_result (after_step t slot))))
  step_gone slot visit good =
      let last = moved-last t slot visit good in
      same_or k slot (λ e. record {
        handed = omega (arith, last, g.handed);
        gone = λ l.
            ap (λ (i : ℕ). holds (room_at (sets t (slot_from slot) (cell (show_result (after_step t slot)))) i) v) e
            ∙ ap (λ (room : Room). holds room v) (moved-own t slot visit good)
            ∙ ap (λ (w : ℕ). eqb w v) (next-visit (visit_in (room_at t slot)).job (visit_in (room_at t slot)).reading)
            ∙ sym (ap (λ (b : Bool). b && eqb (visit_in (room_at t slot)).reading.visit v)
            (held_at t slot visit good).taken)
            ∙ ap (λ (i : ℕ). holds (room_at t i) v) (sym e) ∙ g.gone l;
      }) (λ ne. as_before _ (omega (arith, last)) (λ l. moved_other t slot visit good k ne))

  close-gone : (slot visit : ℕ) → is_bad (held_status t slot visit) ≡ false
      → Is (sets t (slot_from slot) (zeros slot_size))
  close-gone slot visit good =
      let at = held_at t slot visit good in
      let long = whole_long t at.is-whole in
      let last = close-last t slot long at.inside in
      same_or k slot (λ e. record {
        handed = omega (arith, last, g.handed);
        gone = λ l.
            ap (λ (i : ℕ). holds (room_at (sets t (slot_from slot) (zeros slot_size)) i) v) e
            ∙ ap (λ (room : Room). holds room v) (close-own t slot long at.inside);
      }) (λ ne. as_before _ (omega (arith, last)) (λ l. close_other t slot long at.inside k ne))

  one-gone : (c : Call) → Is (after t c)
  unfolding after
  one-gone (Call.opens text) = open-cases t text Is g (open_gone text)
  one-gone (Call.steps slot visit space) =
      step-cases t slot visit Is g space (λ good fits left. step_gone slot visit good)
  one-gone (Call.reads slot visit space) = g
  one-gone (Call.closes slot visit) = close-cases t slot visit Is g (close-gone slot visit)

all-gone : (h : List Call) (t : List ℕ) (k v : ℕ) → Gone t k v → Gone (after_all t h) k v
all-gone [] t k v g = g
all-gone (c ∷ h) t k v g = all-gone h (after t c) k v (one-gone t k v g c)

-- "hands out a visit number .. not reused before the next" clearing
pub stale : (h : List Call) (t : List ℕ) (k v : ℕ) → whole t ≡ true → v ≤ last_in t → is_bad (held_status t k v) ≡ true
    → is_bad (held_status (after_all t h) k v) ≡ true
stale h t k v e handed bad = gone-refused _ k v (all-gone h t k v (refused-gone t k v e handed bad))
