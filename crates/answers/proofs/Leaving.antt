-- What calls on the table of rooms leave in the buffer: no text, a slot and a visit, a reading of at most ROOM bytes.
use Prim.Native.Nat.{ℕ, ◌≤◌}
use native.Mathlib.Omega.{arith}
use native.Mathlib.Nat.{zero-add}
use mathlib.Core.Path.{◌≡◌, refl, ap, ◌∙◌}
use mathlib.Core.Bool.{Bool, true, false}
use mathlib.Core.List.{List, [], ◌++◌}
use lib.ListN.{length, take, drop, take-append-drop}
use lib.Seq.{sets-eq, length-take-le}
use lib.Dec.{leb}
use borrow.Author.Tests.{leb-true, leb-false, lt-ltb, le-ltb}
use Rattle.faults.specs.Answer.{answer_of, left_in, Leaves}
use Rattle.faults.specs.Checks.{bad_unless, on_line, and_then}
use Rattle.faults.specs.declared.Refusal.{Refusal}
use Rattle.faults.specs.Checked.{Status, Checked}
use Rattle.faults.proofs.Answer.{values-bad, has_room}
use Rattle.text.specs.Words.{visit_key}
use Rattle.writing.specs.Wrote.{Wrote}
use Rattle.writing.proofs.Lines.{count-line-short, end-length, end_none}
use Rattle.cells.proofs.Writing.{put-in-part}
use Rattle.room_form.specs.declared.Opened.{Opened}
use Rattle.room_form.specs.Calls.{open_answer}
use Rattle.answers.specs.Answers.{room_max}
use Rattle.answers.specs.Calls.{slot_key, opened_bytes, or_short}
use Rattle.std.specs.Prelude.{Ok, Err, MatchResult}

-- ---- no text

pub silent-leaves : (st : Status) (old : List ℕ) {a : Checked ℕ}
    → MatchResult st (λ u. a ≡ Ok 0) (λ r. a ≡ Err r) → Leaves st [] old old a
silent-leaves (Ok tt) old e = rw e (has_room [] old (omega arith) refl)
silent-leaves (Err r) old e = rw e (values-bad [] old r)

-- ---- a slot and a visit

pub opened-done : {st : Status} {slot visit : ℕ} {r : Opened} → Ok r ≡ open_answer st slot visit
    → (st ≡ Ok tt) × (r ≡ record { slot = slot; visit = visit })
unfolding open_answer
opened-done {st = Ok u} e = (refl, cc)
opened-done {st = Err q} e = absurd (cc)

pub opened-bad : {st : Status} {q : Refusal} (slot visit : ℕ) → Err q ≡ open_answer st slot visit → st ≡ Err q
unfolding open_answer
opened-bad {st = Ok u} slot visit e = absurd (cc)
opened-bad {st = Err r} slot visit e = cc

opened-short : (slot visit : ℕ) → length (opened_bytes slot visit) ≤ room_max
unfolding opened_bytes
opened-short slot visit =
    rw (end-length _ _, end-length _ _, end_none)
    (omega (arith, count-line-short slot_key slot, count-line-short visit_key visit))

pub opened-leaves : {old new : List ℕ} {r : ℕ} (slot visit : ℕ) → room_max ≤ length old
    → Wrote old new 0 r (opened_bytes slot visit)
    → Leaves (Ok tt) (opened_bytes slot visit) old new (Ok r)
opened-leaves {old} {new} {r} slot visit h w =
    let bs = opened_bytes slot visit in
    let n : r ≡ length bs = w.next ∙ zero-add (length bs) in
    let room = sets-eq bs old 0 (omega (arith, opened-short slot visit)) in
    rw n
    (has_room bs old (omega (arith, opened-short slot visit))
    (w.text ∙ room ∙ ap (λ (k : ℕ). bs ++ drop k old) (zero-add (length bs))))

-- ---- a reading of at most so many bytes

module _ (t old : List ℕ) (room : ℕ) (inside : room ≤ length old) where
  -- what is left in the first m bytes, which are lent, is left in all
  abbrev Whole : ℕ → Status → Type 0
  Whole m st = (new : List ℕ) (a : Checked ℕ) → Leaves st t (take m old) new a
      → Leaves (or_short st room t) t old (new ++ drop m old) a

  lent-long : length (take room old) ≡ room
  lent-long = length-take-le room old inside

  part-bad : (r : Refusal) → Whole room (Err r)
  unfolding answer_of left_in and_then
  part-bad r new a w = record {
    answer = w.answer;
    left = ap (λ (xs : List ℕ). xs ++ drop room old) w.left ∙ take-append-drop room old;
  }

  part-long : leb (length t) room ≡ false → Whole room (Ok tt)
  unfolding answer_of left_in and_then bad_unless on_line
  part-long e new a w =
      let much = lt-ltb (length (take room old)) (length t) (omega (arith, lent-long, leb-false (length t) room e)) in
      rw e
      (record {
        answer = rw much at w.answer;
        left = ap (λ (xs : List ℕ). xs ++ drop room old) (rw much at w.left) ∙ take-append-drop room old;
      })

  part-short : leb (length t) room ≡ true → Whole room (Ok tt)
  unfolding answer_of left_in and_then bad_unless on_line
  part-short e new a w =
      let short = leb-true (length t) room e in
      let few = le-ltb (length (take room old)) (length t) (omega (arith, lent-long)) in
      let left =
      ap (λ (xs : List ℕ). xs ++ drop room old) (rw few at w.left) ∙ put-in-part old 0 room t short (omega arith)
      ∙ sets-eq t old 0 (omega arith) ∙ ap (λ (k : ℕ). t ++ drop k old) (zero-add (length t)) in
      rw (e, rw few at w.answer) (has_room t old (omega arith) left)

  part-done : (b : Bool) → leb (length t) room ≡ b → Whole room (Ok tt)
  part-done true e = part-short e
  part-done false e = part-long e

  pub part-leaves : (st : Status) → Whole room st
  part-leaves (Ok tt) = part-done (leb (length t) room) refl
  part-leaves (Err r) = part-bad r
