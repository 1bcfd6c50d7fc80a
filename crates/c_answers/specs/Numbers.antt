-- The answers as C has them: "A fault returns its number and a line", 0 and 0 where there is none, and how many bytes
-- were written.
use Rattle.std.specs.Prelude.{ℕ, ◌≡◌, List, Ok, Err}
use Rattle.faults.specs.Checked.{Checked, Status, value_or}
use Rattle.faults.specs.Words.{number_of, line_of}
use Rattle.faults.specs.Answer.{answer_of, left_in}
use Rattle.c_answers.specs.declared.Answer.{Answer}

abbrev pub numbers_of : Checked ℕ → Answer
numbers_of w = record { fault = number_of w; line = line_of w; len = value_or 0 w }

-- a check writes nothing
abbrev pub checked : Status → Answer
checked (Ok tt) = numbers_of (Ok 0)
checked (Err r) = numbers_of (Err r)

-- values with the status st, whose text is t, are written over the bytes old: what C is answered, and what its buffer
-- holds then
pub record Gives (st : Status) (t old new : List ℕ) (a : Answer) : Type 0 where
  pub answer : a ≡ numbers_of (answer_of st old t)
  pub left : new ≡ left_in st old t
