-- The three ways in which writing ends, and that each answer is settled.
use Prim.Native.Nat.{ℕ, ◌≤◌, ◌<◌}
use mathlib.Core.Path.{◌≡◌, refl, sym, ◌∙◌}
use mathlib.Core.List.{List, ◌++◌}
use lib.ListN.{length, drop}
use borrow.Author.Tests.{lt-ltb, le-ltb}
use Rattle.faults.specs.declared.Fault.{Fault}
use Rattle.faults.specs.declared.Refusal.{Refusal}
use Rattle.faults.specs.Checked.{Checked, Status, refused}
use Rattle.faults.specs.Answer.{answer_of, left_in, Leaves}
use Rattle.std.specs.Prelude.{Ok, Err}

module _ (t old : List ℕ) where
  pub values-bad : (r : Refusal) → Leaves (Err r) t old old (Err r)
  unfolding answer_of left_in
  values-bad r = record { answer = refl; left = refl }

  pub no_room : length old < length t → Leaves (Ok tt) t old old (refused Fault.ShortBuffer 0)
  unfolding answer_of left_in
  no_room h = record { answer = rw (lt-ltb (length old) (length t) h); left = rw (lt-ltb (length old) (length t) h) }

  pub has_room : {new : List ℕ} → length t ≤ length old → new ≡ t ++ drop (length t) old
      → Leaves (Ok tt) t old new (Ok (length t))
  unfolding answer_of left_in
  has_room h w =
      record { answer = rw (le-ltb (length old) (length t) h); left = rw (le-ltb (length old) (length t) h) w }

-- any two answers and buffers that are allowed are equal
pub settled : {st : Status} {t old new new' : List ℕ} {a a' : Checked ℕ}
    → Leaves st t old new a → Leaves st t old new' a' → (a ≡ a') × (new ≡ new')
settled p q = (p.answer ∙ sym q.answer, p.left ∙ sym q.left)
