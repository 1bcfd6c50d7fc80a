-- A text that has room is written, and can be taken out of its buffer again.
use Prim.Native.Nat.{ℕ, ◌+◌, ◌≤◌}
use native.Mathlib.Omega.{arith}
use mathlib.Core.Path.{◌≡◌, ap, ◌∙◌}
use mathlib.Core.List.{List, ◌++◌}
use lib.ListN.{length, take, drop, length-append}
use lib.Seq.{sets-eq, take-append_seam}
use Rattle.faults.specs.Answer.{Leaves}
use Rattle.faults.proofs.Answer.{has_room}
use Rattle.writing.specs.Wrote.{Wrote}
use Rattle.std.specs.Prelude.{Ok}

pub all-written : (t old : List ℕ) {new : List ℕ} {k : ℕ} → length t ≤ length old → Wrote old new 0 k t
    → Leaves (Ok tt) t old new (Ok (length t))
all-written t old h w =
    let e : 0 + length t ≡ length t = omega arith in
    has_room t old h (w.text ∙ sets-eq t old 0 (omega arith) ∙ ap (λ (k : ℕ). t ++ drop k old) e)

-- the bytes of a text that was written from the buffer's start on
pub record Taken (t new : List ℕ) (k : ℕ) : Type 0 where
  pub inside : k ≤ length new
  pub text : take k new ≡ t

pub taken-whole : {t old new : List ℕ} {k : ℕ} → length t ≤ length old → Wrote old new 0 k t → Taken t new k
taken-whole {t} {old} {new} {k} h w =
    let e : 0 + length t ≡ length t = omega arith in
    let is : new ≡ t ++ drop (length t) old =
    w.text ∙ sets-eq t old 0 (omega arith) ∙ ap (λ (k : ℕ). t ++ drop k old) e in
    let count : k ≡ length t = w.next ∙ e in
    record {
      inside = rw (count, is, length-append t (drop (length t) old)) (omega arith);
      text = rw (count, is) (take-append_seam t (drop (length t) old));
    }
