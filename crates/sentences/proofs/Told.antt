-- A slip that is a fault has words, and what is none has none.
use Prim.Native.Nat.{ℕ, ◌<◌}
use native.Mathlib.Omega.{arith}
use mathlib.Core.Path.{◌≡◌, refl}
use mathlib.Core.Bool.{Bool, true, false}
use mathlib.Core.List.{List, [], ◌∷◌}
use lib.ListN.{length}
use Rattle.faults.specs.declared.Fault.{Fault}
use Rattle.slips.specs.declared.Field.{Field}
use Rattle.slips.specs.declared.Form.{Form}
use Rattle.slips.specs.declared.WrongTerm.{WrongTerm}
use Rattle.slips.specs.declared.LineSlip.{LineSlip}
use Rattle.slips.specs.declared.Unlike.{Unlike}
use Rattle.slips.specs.declared.Misspelling.{Misspelling}
use Rattle.slips.specs.declared.Spelled.{Spelled}
use Rattle.slips.specs.declared.Far.{Far}
use Rattle.slips.specs.declared.Crossing.{Crossing}
use Rattle.slips.specs.declared.TermSlip.{TermSlip}
use Rattle.slips.specs.declared.Slip.{Slip}
use Rattle.slips.specs.declared.RoomSlip.{RoomSlip}
use Rattle.slips.specs.Slips.{fault_of}
use Rattle.sentences.specs.Sentences.{line_slip_words, unlike_words, wrong_term_words, misspelled_words}
use Rattle.sentences.specs.Sentences.{beyond_words, far_words, crossed_words, term_words, room_words}
use Rattle.sentences.specs.Sentences.{words_of, slip_words}
use Rattle.std.specs.Prelude.{Option, Some, None, Ok, Err}

zero_one : ◌≡◌ {A = ℕ} 0 1 → ⊥
zero_one e = omega arith

abbrev begun : List ℕ → Bool
begun [] = false
begun (b ∷ bs) = true

some : (bs : List ℕ) → begun bs ≡ true → 0 < length bs
some [] e = absurd (zero_one (cc))
some (b ∷ bs) e = omega arith

line-some : (line : ℕ) (slip : LineSlip) → begun (line_slip_words line slip) ≡ true
unfolding line_slip_words
line-some line slip = refl

unlike-some : (line : ℕ) (slip : Unlike) (form : Form) → begun (unlike_words line slip form) ≡ true
unfolding unlike_words
unlike-some line slip form = refl

wrong-some : (n k : ℕ) (wrong : WrongTerm) (form : Form) → begun (wrong_term_words n k wrong form) ≡ true
unfolding wrong_term_words
wrong-some n k WrongTerm.NoExponents form = refl
wrong-some n k (WrongTerm.Exponents found) form = refl
wrong-some n k WrongTerm.After form = refl

misspelled-some : (s : Spelled) (m : Misspelling) → begun (misspelled_words s m) ≡ true
unfolding misspelled_words
misspelled-some s Misspelling.Empty = refl
misspelled-some s Misspelling.OrderMark = refl
misspelled-some s (Misspelling.Line slip) = line-some s.line slip
misspelled-some s (Misspelling.Unlike slip) = unlike-some s.line slip s.form
misspelled-some s (Misspelling.OtherKey own key) = refl
misspelled-some s (Misspelling.NeitherKey key) = refl
misspelled-some s (Misspelling.Number Field.Only wrong) = refl
misspelled-some s (Misspelling.Number (Field.Number k) wrong) = refl
misspelled-some s (Misspelling.Number (Field.Coefficient k) wrong) = refl
misspelled-some s (Misspelling.Count expected found) = refl
misspelled-some s (Misspelling.Term k wrong) = wrong-some s.n k wrong s.form

far_some : (far : Option Far) → begun (far_words far) ≡ true
unfolding beyond_words far_words
far_some (Some (Far.Job v)) = refl
far_some (Some (Far.Visit v)) = refl
far_some (Some (Far.End k v)) = refl
far_some (Some (Far.Entry k v)) = refl
far_some (Some (Far.Coefficient k v)) = refl
far_some None = refl

crossed-some : (at : Option Crossing) → begun (crossed_words at) ≡ true
unfolding crossed_words
crossed-some (Some c) = refl
crossed-some None = refl

term-some : (slip : Option TermSlip) → begun (term_words slip) ≡ true
unfolding term_words
term-some (Some (TermSlip.Many count)) = refl
term-some (Some (TermSlip.Zero k)) = refl
term-some (Some (TermSlip.Degree k d)) = refl
term-some (Some (TermSlip.Same j k)) = refl
term-some (Some (TermSlip.Order j k)) = refl
term-some None = refl

room-some : (slip : RoomSlip) → begun (room_words slip) ≡ true
unfolding room_words
room-some RoomSlip.Full = refl
room-some RoomSlip.Visits = refl
room-some RoomSlip.NotOpen = refl
room-some RoomSlip.Table = refl

slip-begun : (slip : Slip) → begun (words_of slip) ≡ true
unfolding words_of
slip-begun Slip.Long = refl
slip-begun (Slip.Spelled s) = misspelled-some s s.slip
slip-begun (Slip.Unknowns n) = refl
slip-begun (Slip.Beyond far) = far_some far
slip-begun (Slip.Crossed at) = crossed-some at
slip-begun (Slip.Terms slip) = term-some slip
slip-begun Slip.Short = refl
slip-begun (Slip.Steps v) = refl
slip-begun (Slip.Pin v slip) = refl
slip-begun (Slip.Room slip) = room-some slip

pub slip-some : (slip : Option Slip) {f : Fault} → fault_of slip ≡ Err f → 0 < length (slip_words slip)
unfolding slip_words
slip-some None e = absurd (zero_one (cc))
slip-some (Some slip) e = some (words_of slip) (slip-begun slip)

pub slip-none : (slip : Option Slip) → fault_of slip ≡ Ok tt → slip_words slip ≡ []
unfolding slip_words
slip-none None e = refl
slip-none (Some slip) e = absurd (zero_one (cc))
