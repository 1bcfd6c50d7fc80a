-- Checks one after another. Document 01: "lines are taken in order and the first bad line decides; in one line 2 comes
-- before the others, then 3, then 4, then 5 or 6".
use Rattle.std.specs.Prelude.{ℕ, zero, suc, Bool, true, false, Ok, Err}
use Rattle.faults.specs.declared.Fault.{Fault}
use Rattle.faults.specs.Checked.{Found, Finding, Checked, Status, refused}

-- ---- one line

unfoldable pub bad_unless : Bool → Fault → Finding
bad_unless true f = Ok tt
bad_unless false f = Err f

-- in one line the first fault decides
unfoldable pub first_of : {A : Type 0} → Finding → Found A → Found A
first_of (Ok tt) next = next
first_of (Err f) next = Err f

abbrev pub is_fine : Finding → Bool
is_fine (Ok tt) = true
is_fine (Err f) = false

-- "A fault returns its number and a line"
unfoldable pub on_line : {A : Type 0} → Found A → ℕ → Checked A
on_line (Ok x) line = Ok x
on_line (Err f) line = refused f line

-- ---- line after line

-- the first bad line decides
unfoldable pub and_then : {A : Type 0} → Status → Checked A → Checked A
and_then (Ok tt) next = next
and_then (Err r) next = Err r

abbrev pub is_bad : {A : Type 0} → Checked A → Bool
is_bad (Ok x) = false
is_bad (Err r) = true

-- n lines one after another
unfoldable pub lines_of : ℕ → (ℕ → Status) → Status
lines_of zero f = Ok tt
lines_of (suc n) f = and_then (lines_of n f) (f n)
