-- The sentence of each slip: what stands there and what is expected.
use Rattle.std.specs.Prelude.{ℕ, ◌≤◌, ◌≡◌, List, [], ◌++◌, cond, eqb, ℤ, Option, Some, None}
use Rattle.sizes.specs.Sizes.{n_max, terms_max, text_max, steps_max, number_max, visit_max, end_max, entry_max}
use Rattle.sizes.specs.Sizes.{degree_max}
use Rattle.faults.specs.Checked.{Finding}
use Rattle.writing.specs.Wrote.{Wrote}
use Rattle.slips.specs.declared.Key.{Key}
use Rattle.slips.specs.declared.Form.{Form}
use Rattle.slips.specs.declared.Field.{Field}
use Rattle.slips.specs.declared.Wrong.{Wrong}
use Rattle.slips.specs.declared.WrongTerm.{WrongTerm}
use Rattle.slips.specs.declared.LineSlip.{LineSlip}
use Rattle.slips.specs.declared.Unlike.{Unlike}
use Rattle.slips.specs.declared.Misspelling.{Misspelling}
use Rattle.slips.specs.declared.Spelled.{Spelled}
use Rattle.slips.specs.declared.Far.{Far}
use Rattle.slips.specs.declared.Crossing.{Crossing}
use Rattle.slips.specs.declared.TermSlip.{TermSlip}
use Rattle.slips.specs.declared.PinSlip.{PinSlip}
use Rattle.slips.specs.declared.RoomSlip.{RoomSlip}
use Rattle.slips.specs.declared.Slip.{Slip}
use Rattle.slips.specs.Keys.{key_words}
use Rattle.slips.specs.Slips.{fault_of}
use Rattle.phrases.specs.Ascii.{ascii}
use Rattle.phrases.specs.Words.{value_words, expected_words, field_words, wrong_words, pin_range_words}
use Rattle.phrases.specs.Words.{count_words, counted, some_words}
use Rattle.phrases.specs.Says.{sentence_max}

-- ---- fault 2

-- the line by its number, and what it has
abbrev pub line_words : ℕ → List ℕ → List ℕ
line_words line words = counted (ascii "line ") line words

-- the same, and what it must be
abbrev pub line_not : ℕ → List ℕ → Form → List ℕ
line_not line words form = line_words line words ++ expected_words form

abbrev pub other_key_words : ℕ → Key → Key → List ℕ
other_key_words line own key =
    line_words line (ascii " begins with ") ++ key_words key ++ ascii ", " ++ key_words own ++ ascii " is expected"

abbrev pub neither_key_words : ℕ → Key → List ℕ
neither_key_words line key =
    line_words line (ascii " begins with ") ++ key_words key ++ ascii ", pin= or lo= is expected"

abbrev pub number_not : Field → Wrong → Form → List ℕ
number_not field wrong form = field_words field ++ wrong_words wrong ++ expected_words form

abbrev pub count_not : ℕ → ℕ → ℕ → List ℕ
count_not n expected found =
    counted (ascii "n=") n (ascii ": ") ++ some_words expected (ascii " number expected, ")
    (ascii " numbers expected, ")
    ++ counted [] found (ascii " found")

abbrev pub exponents_not : ℕ → ℕ → ℕ → List ℕ
exponents_not n k found =
    counted (ascii "n=") n (ascii ": ")
    ++ some_words n (ascii " exponent expected in term ") (ascii " exponents expected in term ")
    ++ counted [] k (ascii ", ") ++ counted [] found (ascii " found")

-- the term by its place, what it has and what the line must be
abbrev pub term_not : ℕ → List ℕ → Form → List ℕ
term_not k words form = counted (ascii "term ") k words ++ expected_words form

abbrev pub empty_words : Form → List ℕ
empty_words form = ascii "the text is empty" ++ expected_words form

abbrev pub mark_words : List ℕ
mark_words = ascii "the text begins with a byte order mark: save it as plain text without one"

abbrev pub line_slip_said : LineSlip → List ℕ
line_slip_said LineSlip.Extra = ascii " is one too many: the line before it is the last"
line_slip_said LineSlip.NoFeed = ascii " has no line feed: press Enter at its end"
line_slip_said LineSlip.Return = ascii " has a carriage return: save with Unix line ends"
line_slip_said LineSlip.Blank = ascii " has a blank or a tab: write it with none"
line_slip_said LineSlip.Pin = ascii " begins with pin=, lo= is expected: only an eigen job has a pin line"

unfoldable pub line_slip_words : ℕ → LineSlip → List ℕ
line_slip_words line slip = line_words line (line_slip_said slip)

abbrev pub unlike_said : Unlike → List ℕ
unlike_said Unlike.Gone = ascii " is missing"
unlike_said Unlike.Hollow = ascii " is empty"
unlike_said Unlike.Capital = ascii " has a capital letter: all are small"
unlike_said Unlike.NoKey = ascii " does not begin with its key"
unlike_said Unlike.Word = ascii " has another word"
unlike_said Unlike.Digit = ascii " has not just one digit"

unfoldable pub unlike_words : ℕ → Unlike → Form → List ℕ
unlike_words line slip form = line_not line (unlike_said slip) form

unfoldable pub wrong_term_words : ℕ → ℕ → WrongTerm → Form → List ℕ
wrong_term_words n k WrongTerm.NoExponents form = term_not k (ascii " has no exponents") form
wrong_term_words n k (WrongTerm.Exponents found) form = exponents_not n k found
wrong_term_words n k WrongTerm.After form = term_not k (ascii " is not followed by a comma") form

unfoldable pub misspelled_words : Spelled → Misspelling → List ℕ
misspelled_words s Misspelling.Empty = empty_words s.form
misspelled_words s Misspelling.OrderMark = mark_words
misspelled_words s (Misspelling.Line slip) = line_slip_words s.line slip
misspelled_words s (Misspelling.Unlike slip) = unlike_words s.line slip s.form
misspelled_words s (Misspelling.OtherKey own key) = other_key_words s.line own key
misspelled_words s (Misspelling.NeitherKey key) = neither_key_words s.line key
misspelled_words s (Misspelling.Number field wrong) = number_not field wrong s.form
misspelled_words s (Misspelling.Count expected found) = count_not s.n expected found
misspelled_words s (Misspelling.Term k wrong) = wrong_term_words s.n k wrong s.form

-- ---- faults 4, 5 and 6

-- from -m to m
abbrev pub range_words : List ℕ → ℕ → List ℕ
range_words words m = words ++ counted (ascii " lie from -") m (ascii " to ") ++ count_words m

-- the number at a place is v, and of what size such numbers are
abbrev pub far_not : List ℕ → ℕ → ℤ → List ℕ → ℕ → List ℕ
far_not field k v words m = counted field k (ascii " is ") ++ value_words v ++ range_words words m

-- a count is v, and not from 0 to its limit
abbrev pub count_far_words : List ℕ → ℤ → ℕ → List ℕ
count_far_words words v most = words ++ value_words v ++ counted (ascii ": it lies from 0 to ") most []

unfoldable pub beyond_words : Far → List ℕ
beyond_words (Far.Job v) = count_far_words (ascii "the job's number is ") v number_max
beyond_words (Far.Visit v) = count_far_words (ascii "the visit's number is ") v visit_max
beyond_words (Far.End k v) = far_not (ascii "number ") k v (ascii ": ends") end_max
beyond_words (Far.Entry k v) = far_not (ascii "number ") k v (ascii ": entries") entry_max
beyond_words (Far.Coefficient k v) =
    far_not (ascii "the coefficient of term ") k v (ascii ": coefficients") entry_max

unfoldable pub far_words : Option Far → List ℕ
far_words (Some far) = beyond_words far
far_words None = range_words (ascii "coefficients and entries") entry_max

abbrev pub crossing_words : Crossing → List ℕ
crossing_words c =
    counted (ascii "unknown ") c.unknown (ascii ": the high end ") ++ value_words c.high
    ++ ascii " is below the low end " ++ value_words c.low

unfoldable pub crossed_words : Option Crossing → List ℕ
crossed_words (Some c) = crossing_words c
crossed_words None = ascii "no high end may be below its low end"

abbrev pub many_words : ℕ → List ℕ
many_words count =
    counted (ascii "an equation has at most ") terms_max (ascii " terms, this one has ") ++ count_words count

abbrev pub zero_words : ℕ → List ℕ
zero_words k = counted (ascii "the coefficient of term ") k (ascii " is 0: leave the term out")

abbrev pub degree_words : ℕ → ℕ → List ℕ
degree_words k d =
    counted (ascii "the exponents of term ") k (ascii " add up to ") ++ counted [] d (ascii ", at most ")
    ++ counted [] degree_max (ascii " may be")

abbrev pub same_words : ℕ → ℕ → List ℕ
same_words j k =
    counted (ascii "terms ") j (ascii " and ") ++ counted [] k (ascii " have the same exponents: make them one term")

abbrev pub order_words : ℕ → ℕ → List ℕ
order_words j k =
    counted (ascii "term ") k (ascii " must stand before term ")
    ++ counted [] j (ascii ": terms stand in falling order of their exponents")

unfoldable pub term_words : Option TermSlip → List ℕ
term_words (Some (TermSlip.Many count)) = many_words count
term_words (Some (TermSlip.Zero k)) = zero_words k
term_words (Some (TermSlip.Degree k d)) = degree_words k d
term_words (Some (TermSlip.Same j k)) = same_words j k
term_words (Some (TermSlip.Order j k)) = order_words j k
term_words None = ascii "terms stand in strictly falling order of their exponents"

-- ---- every slip

abbrev pub unknowns_words : ℕ → List ℕ
unknowns_words n = counted (ascii "there are 1 to ") n_max (ascii " unknowns, not ") ++ count_words n

unfoldable pub pin_slip_words : PinSlip → List ℕ
pin_slip_words PinSlip.Last = ascii ": the last coordinate is pinned without this line, leave the line out"
pin_slip_words (PinSlip.Out most) = pin_range_words most

abbrev pub pinned_words : ℤ → PinSlip → List ℕ
pinned_words v slip = ascii "pin is " ++ value_words v ++ pin_slip_words slip

unfoldable pub room_words : RoomSlip → List ℕ
room_words RoomSlip.Full = ascii "all rooms are taken: close one first"
room_words RoomSlip.Visits = ascii "every visit number is handed out: clear the table first"
room_words RoomSlip.NotOpen = ascii "this slot does not hold this visit: it was closed, or never opened"
room_words RoomSlip.Table = ascii "the bytes are no table of rooms: too few, or not only changed by its calls"

abbrev pub long_words : List ℕ
long_words = counted (ascii "a text has at most ") text_max (ascii " bytes, this one has more")

abbrev pub short_words : List ℕ
short_words = ascii "the answer is longer than its buffer"

unfoldable pub words_of : Slip → List ℕ
words_of Slip.Long = long_words
words_of (Slip.Spelled s) = misspelled_words s s.slip
words_of (Slip.Unknowns n) = unknowns_words n
words_of (Slip.Beyond far) = far_words far
words_of (Slip.Crossed at) = crossed_words at
words_of (Slip.Terms slip) = term_words slip
words_of Slip.Short = short_words
words_of (Slip.Steps v) = count_far_words (ascii "steps is ") v steps_max
words_of (Slip.Pin v slip) = pinned_words v slip
words_of (Slip.Room slip) = room_words slip

-- no word where there is no slip
unfoldable pub slip_words : Option Slip → List ℕ
slip_words None = []
slip_words (Some slip) = words_of slip

-- the sentence of a fault of the table, by its number: 7 is the only other one that a call on it has
unfoldable pub table_words : ℕ → List ℕ
table_words k =
    cond (eqb k 7) short_words
    (cond (eqb k 13) (room_words RoomSlip.Full)
    (cond (eqb k 14) (room_words RoomSlip.Visits)
    (cond (eqb k 15) (room_words RoomSlip.NotOpen)
    (cond (eqb k 16) (room_words RoomSlip.Table) []))))

-- the sentence of a slip that is the fault which the reader found stands from the start of the buffer on, as far as
-- there is room, and every other byte is the old one; r is its length
pub record Explains (found : Finding) (old new : List ℕ) (r : ℕ) : Type 0 where
  pub slip : Option Slip
  pub fault : fault_of slip ≡ found
  pub words : Wrote old new 0 r (slip_words slip)
  pub short : r ≤ sentence_max
