-- The ways in which an answer is told.
use Prim.Native.Nat.{ℕ, ◌≤◌}
use native.Mathlib.Omega.{arith}
use native.Mathlib.Nat.{zero-add}
use mathlib.Core.Path.{◌≡◌, sym, ap, ◌∙◌}
use mathlib.Core.List.{List, ◌++◌, append-nil}
use lib.ListN.{length, drop, take-append-drop}
use lib.Seq.{sets-eq, length-take-le, take_all, drop-length}
use Rattle.faults.specs.Words.{fault_number}
use Rattle.faults.specs.declared.Refusal.{Refusal}
use Rattle.faults.specs.Checked.{Checked}
use Rattle.digits.proofs.Cases.{either}
use Rattle.writing.specs.Wrote.{Wrote}
use Rattle.writing.proofs.Wrote.{wrote-length}
use Rattle.writing.proofs.Lines.{count-line-short, end-length, end_none}
use Rattle.answers.specs.Answers.{room_max, fault_key, line_key, fault_bytes, told_of, Tells}
use Rattle.std.specs.Prelude.{Ok, Err, min}

fault-short : (r : Refusal) → length (fault_bytes r) ≤ room_max
unfolding fault_bytes
fault-short r =
    rw (end-length _ _, end-length _ _, end_none)
    (omega (arith, count-line-short fault_key (fault_number r.fault), count-line-short line_key r.line))

module _ (old : List ℕ) (full : length old ≡ room_max) where
  told_text : (len : ℕ) → len ≤ length old → Tells (Ok len) old old len
  unfolding told_of
  told_text len h =
      let n = sym (length-take-le len old h) in
      record { count = n; bytes = sym (take-append-drop len old); small = omega arith; inside = h; whole = n }

  told-all : (len : ℕ) → length old ≤ len → Tells (Ok len) old old (length old)
  unfolding told_of
  told-all len h = record {
    count = ap length (sym (take_all len old h));
    bytes = rw (take_all len old h, drop-length old) (sym (append-nil old));
    small = omega arith;
    inside = omega arith;
    whole = ap length (sym (take_all (length old) old (omega arith)));
  }

  -- a text, as far as the buffer goes
  pub told-min : (len : ℕ) → Tells (Ok len) old old (min len (length old))
  told-min len =
      either len (length old)
      (λ h. let e : min len (length old) ≡ len = omega arith in rw e (told_text len (omega arith)))
      (λ h. let e : min len (length old) ≡ length old = omega arith in rw e (told-all len h))

  pub told-fault : {new : List ℕ} {n : ℕ} (r : Refusal) → Wrote old new 0 n (fault_bytes r) → Tells (Err r) old new n
  unfolding told_of
  told-fault {new} {n} r w =
      let bs = fault_bytes r in
      let e : n ≡ length bs = w.next ∙ zero-add (length bs) in
      let short = fault-short r in
      let h : n ≤ length new = omega (arith, wrote-length w) in
      let room = sets-eq bs old 0 (omega arith) in
      record {
        count = e;
        bytes = w.text ∙ room ∙ ap (λ (k : ℕ). bs ++ drop k old) (sym w.next);
        small = omega arith;
        inside = h;
        whole = sym (length-take-le n new h);
      }

-- any two counts and buffers that are allowed are equal
pub told-settled : {a : Checked ℕ} {old new new' : List ℕ} {r r' : ℕ} → Tells a old new r → Tells a old new' r'
    → (r ≡ r') × (new ≡ new')
told-settled {a} {old} p q =
    let n = p.count ∙ sym q.count in
    (n, p.bytes ∙ ap (λ (k : ℕ). told_of a old ++ drop k old) n ∙ sym q.bytes)
