-- The refusals of the five calls, and what a refused call leaves.
use Prim.Native.Nat.{ℕ, ◌+◌, ◌≤◌, ◌<◌}
use native.Mathlib.Omega.{arith}
use mathlib.Core.Path.{◌≡◌, refl, sym, ap, ◌∙◌}
use mathlib.Core.Bool.{Bool, true, false, cond, ◌&&◌, true≢false}
use mathlib.Core.List.{List}
use mathlib.Core.Logic.{◌⊎◌, inl, inr, ⊎_elim}
use lib.ListN.{length}
use lib.Dec.{ltb}
use borrow.Author.Tests.{lt-ltb, lt-leb, le-leb, ltb-false}
use Rattle.digits.proofs.Cases.{either}
use Rattle.faults.specs.declared.Fault.{Fault}
use Rattle.faults.specs.Checked.{Status, refused, status_of}
use Rattle.faults.specs.Words.{fault_number, fault_max, number_of}
use Rattle.faults.specs.Checks.{is_bad, bad_unless, on_line, and_then}
use Rattle.sizes.specs.Sizes.{text_max, visit_max}
use Rattle.reading.proofs.Goes.{read-long}
use Rattle.reading.proofs.Refused.{refused-blamed}
use Rattle.lines.specs.Answered.{answered}
use Rattle.lines.proofs.Faults.{OfLine, spelling}
use Rattle.job_form.specs.JobForm.{job_form_of, read_job}
use Rattle.job_form.proofs.Answers.{first-bad}
use Rattle.job_form.proofs.Faults.{job-says}
use Rattle.result_form.specs.ResultShows.{show_result}
use Rattle.visits.specs.Visits.{next_reading}
use Rattle.room_form.specs.declared.Room.{Room}
use Rattle.room_form.specs.Table.{visit_in, rooms_max, table_size, last_in, room_at, whole}
use Rattle.room_form.specs.Calls.{clear_status, cleared, is_free, lowest_free, next_visit, open_status, opened}
use Rattle.room_form.specs.Calls.{is_taken, holds, held_status, after_step, finished, stepped, closed}
use Rattle.room_form.proofs.Whole.{whole_long, whole_each}
use Rattle.room_form.proofs.Visited.{HeldAt, held_at}
use Rattle.histories.proofs.After.{clear-last, close-own}
use Rattle.room_form.proofs.Free.{free-or-taken}
use Rattle.histories.proofs.Isolated.{lowest-is-free}
use Rattle.histories.proofs.Own.{lower-taken}
use Rattle.std.specs.Prelude.{Ok, Err}

pub cleared-next : (t : List ℕ) → table_size ≤ length t → next_visit (cleared t) ≡ 1
unfolding cleared bad_unless on_line
cleared-next t long = rw (le-leb table_size (length t) long) (ap (λ (n : ℕ). n + 1) (clear-last t long))

pub close-frees : (t : List ℕ) (slot visit : ℕ) → held_status t slot visit ≡ Ok tt
    → room_at (closed t slot visit) slot ≡ Room.Free
unfolding closed
close-frees t slot visit done =
    let at = held_at t slot visit (ap is_bad done) in
    rw done (close-own t slot (whole_long t at.is-whole) at.inside)

finished-unmoved : (t : List ℕ) (slot visit space : ℕ) → finished (room_at t slot) ≡ true
    → stepped t slot visit space ≡ t
unfolding stepped
finished-unmoved t slot visit space e =
    rw e (go (is_bad (held_status t slot visit)) (ltb space (length (show_result (after_step t slot)))))
  where
    go : (a b : Bool) → cond a t (cond b t t) ≡ t
    go true b = refl
    go false true = refl
    go false false = refl

pub finished-stays : (t : List ℕ) (slot visit space : ℕ) → finished (room_at t slot) ≡ true
    → (stepped t slot visit space ≡ t) × (after_step t slot ≡ (visit_in (room_at t slot)).reading)
unfolding next_reading
finished-stays t slot visit space e = (finished-unmoved t slot visit space e, rw e refl)

-- ---- 16, then 15

pub clear-no-table : (t : List ℕ) → length t < table_size → clear_status t ≡ refused Fault.Table 0
unfolding bad_unless on_line
clear-no-table t few = rw (lt-leb table_size (length t) few) refl

pub clear-done : (t : List ℕ) → table_size ≤ length t → clear_status t ≡ Ok tt
unfolding bad_unless on_line
clear-done t long = rw (le-leb table_size (length t) long) refl

pub open-or-not : (t : List ℕ) (slot visit : ℕ) → whole t ≡ true
    → ((held_status t slot visit ≡ Ok tt) × HeldAt t slot visit)
    ⊎ (held_status t slot visit ≡ refused Fault.NotOpen 0)
unfolding bad_unless on_line and_then
open-or-not t slot visit e = go (ltb slot rooms_max && holds (room_at t slot) visit) refl
  where
    go : (b : Bool) → ltb slot rooms_max && holds (room_at t slot) visit ≡ b
        → ((held_status t slot visit ≡ Ok tt) × HeldAt t slot visit)
        ⊎ (held_status t slot visit ≡ refused Fault.NotOpen 0)
    go true q = let done : held_status t slot visit ≡ (Ok tt) = rw (e, q) refl in
        inl (done, held_at t slot visit (ap is_bad done))
    go false q = inr (rw (e, q) refl)

-- no job text has a fault of the table
text-fault : (text : List ℕ) (f : Fault) (n : ℕ) → status_of (read_job text) ≡ refused f n
    → fault_number f ≤ fault_max
unfolding read_job
text-fault text f n e =
    either text_max (length text)
    (λ long. same-fault (sym (ap (λ a. status_of (answered a)) (read-long job_form_of text long)) ∙ e))
    (λ few. (refused-blamed OfLine spelling job-says ((first-bad text f n few).0 e)).of-text)
  where
    same-fault : ◌≡◌ {A = Status} (refused Fault.LongText 0) (refused f n) → fault_number f ≤ fault_max
    same-fault q = omega (arith, ap number_of q)

-- what a whole table refuses by a fault of its own: 13 where no slot is free, 14 where the last visit was handed out
own-fault : (t text : List ℕ) → whole t ≡ true → (f : Fault) → fault_max < fault_number f
    → open_status t text ≡ refused f 0
    → ((fault_number f ≡ 13) × (rooms_max ≤ lowest_free t)) ⊎ ((fault_number f ≡ 14) × (visit_max ≤ last_in t))
unfolding bad_unless on_line and_then
own-fault t text e f own bad =
    go (status_of (read_job text)) (ltb (lowest_free t) rooms_max) (ltb (last_in t) visit_max) refl refl refl
    (rw e at bad)
  where
    go : (st : Status) (b c : Bool) → status_of (read_job text) ≡ st → ltb (lowest_free t) rooms_max ≡ b
        → ltb (last_in t) visit_max ≡ c
        → and_then st (and_then (on_line (bad_unless b Fault.Full) 0) (on_line (bad_unless c Fault.Visits) 0))
        ≡ refused f 0
        → ((fault_number f ≡ 13) × (rooms_max ≤ lowest_free t)) ⊎ ((fault_number f ≡ 14) × (visit_max ≤ last_in t))
    go (Err r) b c is p q same = absurd (omega (arith, own, text-fault text r.fault r.line is, ap number_of same))
    go (Ok tt) false c is p q same = inl (sym (ap number_of same), ltb-false (lowest_free t) rooms_max p)
    go (Ok tt) true false is p q same = inr (sym (ap number_of same), ltb-false (last_in t) visit_max q)
    go (Ok tt) true true is p q same = absurd (omega (arith, own, ap number_of same))

pub only-no-table : (t text : List ℕ) → whole t ≡ true → open_status t text ≡ refused Fault.Table 0 → ⊥
only-no-table t text e bad =
    ⊎_elim (λ is. omega (arith, is.0)) (λ is. omega (arith, is.0)) (own-fault t text e Fault.Table (omega arith) bad)

pub held-only-no-table : (t : List ℕ) (slot visit : ℕ) → whole t ≡ true
    → held_status t slot visit ≡ refused Fault.Table 0 → ⊥
unfolding bad_unless on_line and_then
held-only-no-table t slot visit e bad = go (ltb slot rooms_max && holds (room_at t slot) visit) (rw e at bad)
  where
    go : (b : Bool) → on_line (bad_unless b Fault.NotOpen) 0 ≡ refused Fault.Table 0 → ⊥
    go true q = let z = ap number_of q in omega (arith, z)
    go false q = let z = ap number_of q in omega (arith, z)

-- ---- 13, then 14

taken-not-free : (room : Room) → is_taken room ≡ true → is_free room ≡ false
taken-not-free Room.Free e = sym e
taken-not-free (Room.Taken v) e = refl
taken-not-free Room.Broken e = refl

pub none_left : (t : List ℕ) → ((i : ℕ) → i < rooms_max → is_taken (room_at t i) ≡ true)
    → rooms_max ≤ lowest_free t
none_left t taken =
    let k = lowest_free t in
    either k rooms_max
    (λ l. absurd (true≢false (sym (lowest-is-free t l) ∙ taken-not-free (room_at t k) (taken k l)))) (λ l. l)

-- a slot of a whole table that is not free is taken
all-taken : (t : List ℕ) → whole t ≡ true → rooms_max ≤ lowest_free t → (i : ℕ) → i < rooms_max
    → is_taken (room_at t i) ≡ true
all-taken t e full i l =
    free-or-taken (room_at t i) (whole_each t e i l)
    (λ free. absurd (true≢false (sym free ∙ lower-taken t i (omega arith)))) (λ taken. taken)

pub only-full : (t text : List ℕ) → whole t ≡ true → open_status t text ≡ refused Fault.Full 0 → (i : ℕ)
    → i < rooms_max → is_taken (room_at t i) ≡ true
only-full t text e bad =
    ⊎_elim (λ is. all-taken t e is.1) (λ is. absurd (omega (arith, is.0)))
    (own-fault t text e Fault.Full (omega arith) bad)

pub only-last : (t text : List ℕ) → whole t ≡ true → open_status t text ≡ refused Fault.Visits 0
    → visit_max ≤ last_in t
only-last t text e bad =
    ⊎_elim (λ is. absurd (omega (arith, is.0))) (λ is. is.1) (own-fault t text e Fault.Visits (omega arith) bad)

-- a slot that is free leaves a lowest one
pub some_left : (t : List ℕ) (i : ℕ) → i < rooms_max → is_free (room_at t i) ≡ true → lowest_free t < rooms_max
some_left t i l free =
    either (lowest_free t) rooms_max (λ some. some)
    (λ full. absurd (true≢false (sym free ∙ lower-taken t i (omega arith))))

-- ---- "No refusal changes the table."

pub open-unchanged : (t text : List ℕ) → is_bad (open_status t text) ≡ true → opened t text ≡ t
unfolding opened
open-unchanged t text e = rw e refl

pub step-unchanged : (t : List ℕ) (slot visit space : ℕ) → is_bad (held_status t slot visit) ≡ true
    → stepped t slot visit space ≡ t
unfolding stepped
step-unchanged t slot visit space e = rw e refl

pub short-unchanged : (t : List ℕ) (slot visit space : ℕ) → space < length (show_result (after_step t slot))
    → stepped t slot visit space ≡ t
unfolding stepped
short-unchanged t slot visit space l =
    rw (lt-ltb space (length (show_result (after_step t slot))) l) (go (is_bad (held_status t slot visit)))
  where
    go : (a : Bool) → cond a t t ≡ t
    go true = refl
    go false = refl

pub close-unchanged : (t : List ℕ) (slot visit : ℕ) → is_bad (held_status t slot visit) ≡ true → closed t slot visit ≡ t
unfolding closed
close-unchanged t slot visit e = rw e refl

pub clear-unchanged : (t : List ℕ) → length t < table_size → cleared t ≡ t
unfolding cleared bad_unless on_line
clear-unchanged t few = rw (lt-leb table_size (length t) few) refl
