-- What writing a text answers, and what it leaves in the lent buffer.
use Rattle.std.specs.Prelude.{ℕ, ◌≡◌, List, ◌++◌, cond, length, drop, ltb, Ok, Err}
use Rattle.faults.specs.declared.Fault.{Fault}
use Rattle.faults.specs.Checked.{Checked, Status, refused}

-- how many bytes were written: "When writing, faults of the values come before 7", "the written text is longer than the
-- lent buffer", with line 0
unfoldable pub answer_of : Status → List ℕ → List ℕ → Checked ℕ
answer_of (Err r) old t = Err r
answer_of (Ok tt) old t = cond (ltb (length old) (length t)) (refused Fault.ShortBuffer 0) (Ok (length t))

-- a fault "writes nowhere"; "After a text is written, the lent buffer's bytes beyond it are the old ones."
unfoldable pub left_in : Status → List ℕ → List ℕ → List ℕ
left_in (Err r) old t = old
left_in (Ok tt) old t = cond (ltb (length old) (length t)) old (t ++ drop (length t) old)

-- values with the status st, whose text is t, are written over the bytes old
pub record Leaves (st : Status) (t old new : List ℕ) (a : Checked ℕ) : Type 0 where
  pub answer : a ≡ answer_of st old t
  pub left : new ≡ left_in st old t
