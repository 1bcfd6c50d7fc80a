-- What the checks of values find, and what the reading of a text answers.
use Prim.Native.Nat.{ℕ}
use mathlib.Core.Path.{◌≡◌, refl, sym, ap}
use Rattle.faults.specs.declared.Fault.{Fault}
use Rattle.reading.specs.Lines.{Answer}
use Rattle.reading.specs.Shows.{unless_found}
use Rattle.faults.specs.Checks.{and_then}
use Rattle.faults.specs.declared.Refusal.{Refusal}
use Rattle.faults.specs.Checked.{Status, Finding, refused, status_of}
use Rattle.faults.specs.Checks.{on_line}
use Rattle.reading.proofs.Told.{fault-got}
use Rattle.lines.specs.Answered.{answered}
use Rattle.std.specs.Prelude.{Ok, Err}

-- the first bad line decides, in the values as in the text
pub status-then : {X : Type 0} (f : Finding) (n : ℕ) (a : Answer Fault X) (s : Status) → status_of (answered a) ≡ s
    → status_of (answered (unless_found f n a)) ≡ and_then (on_line f n) s
unfolding unless_found and_then on_line
status-then (Ok tt) n a s e = e
status-then (Err f) n a s e = refl

pub status-last : {X : Type 0} (f : Finding) (n : ℕ) (x : X)
    → status_of (answered (unless_found f n (Answer.done x))) ≡ on_line f n
unfolding unless_found on_line
status-last (Ok tt) n x = refl
status-last (Err f) n x = refl

pub status-done : {X : Type 0} (a : Answer Fault X) → status_of (answered a) ≡ Ok tt → (x : X) × (a ≡ Answer.done x)
status-done (Answer.done x) e = (x, refl)
status-done (Answer.refused f n) e = fault-got e

pub status-refused : {X : Type 0} (a : Answer Fault X) (f : Fault) (n : ℕ) → status_of (answered a) ≡ refused f n
    → a ≡ Answer.refused f n
status-refused (Answer.done x) f n e = fault-got (sym e)
status-refused (Answer.refused f' n') f n e =
    let was : Refusal = record { fault = f'; line = n' } in
    let same : was ≡ record { fault = f; line = n } = cc in
    ap (λ (r : Refusal). Answer.refused r.fault r.line) same

pub answer-done : {X : Type 0} (a : Answer Fault X) (x : X) → answered a ≡ Ok x → a ≡ Answer.done x
answer-done (Answer.done y) x e = let same : y ≡ x = cc in rw same
answer-done (Answer.refused f n) x e = fault-got e
