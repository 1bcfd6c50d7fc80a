-- The parts of a sentence.
use Rattle.std.specs.Prelude.{ℕ, List, [], ◌++◌, cond, eqb, ℤ, pos}
use Rattle.digits.specs.Show.{show_magnitude, show_number}
use Rattle.sizes.specs.Sizes.{number_max}
use Rattle.term_checks.specs.Ranges.{is_within}
use Rattle.slips.specs.Keys.{key_words}
use Rattle.slips.specs.declared.Key.{Key}
use Rattle.slips.specs.declared.Form.{Form}
use Rattle.slips.specs.declared.Field.{Field}
use Rattle.slips.specs.declared.Wrong.{Wrong}
use Rattle.phrases.specs.Ascii.{ascii}

-- the digits of a 64-bit number
abbrev pub count_digits : ℕ
count_digits = 20

unfoldable pub count_words : ℕ → List ℕ
count_words m = show_magnitude count_digits m

-- a number of a text, which has nine digits at most
unfoldable pub value_words : ℤ → List ℕ
value_words v = cond (is_within v (pos number_max)) (show_number v) []

-- words, a count, words
abbrev pub counted : List ℕ → ℕ → List ℕ → List ℕ
counted before m after = before ++ count_words m ++ after

-- so many of a thing, in the singular or in the plural
abbrev pub some_words : ℕ → List ℕ → List ℕ → List ℕ
some_words m one many = cond (eqb m 1) (counted [] m one) (counted [] m many)

abbrev pub several_words : Key → ℕ → List ℕ
several_words key m = key_words key ++ counted (ascii " and ") m (ascii " numbers joined by commas")

abbrev pub numbers_words : Key → ℕ → List ℕ
numbers_words key m = cond (eqb m 1) (key_words key ++ ascii " and one number") (several_words key m)

-- up to so many: words for 1 alone, or words before the number
abbrev pub most_words : ℕ → List ℕ → List ℕ → List ℕ
most_words most only words = cond (eqb most 1) only (counted words most [])

-- of two coordinates only the first can be written
abbrev pub pin_words : ℕ → List ℕ
pin_words most = most_words most (ascii "pin=1") (ascii "pin= and a number from 1 to ")

abbrev pub pin_range_words : ℕ → List ℕ
pin_range_words most = most_words most (ascii ": only 1 can stand here") (ascii ": it lies from 1 to ")

-- what a line must be
abbrev pub form_words : Form → List ℕ
form_words Form.Number = ascii "job= and the job's number"
form_words Form.Kind = ascii "kind=poly, kind=linear or kind=eigen"
form_words Form.Unknowns = ascii "n= and one digit"
form_words (Form.Pin most) = pin_words most
form_words (Form.PinOrLo most m) = pin_words most ++ ascii ", or " ++ several_words Key.Lo m
form_words (Form.Unpinned m) = numbers_words Key.Lo m
form_words (Form.Numbers key m) = numbers_words key m
form_words (Form.Sided m) = counted (ascii "row= and ") m (ascii " numbers joined by commas, the right side last")
form_words (Form.Terms n) =
    counted (ascii "eq= and terms coefficient:exponents joined by commas, exponent digits a term: ") n []
form_words Form.Steps = ascii "steps= and a number"
form_words Form.Visit = ascii "visit= and the visit's number"
form_words Form.Verdict = ascii "verdict=none, verdict=unique, verdict=stalled or verdict=spent"
form_words Form.Low = ascii "lo= and numbers joined by commas"
form_words Form.Nothing = ascii "nothing after the last line"

unfoldable pub expected_words : Form → List ℕ
expected_words form = ascii "; expected " ++ form_words form

abbrev pub field_words : Field → List ℕ
field_words Field.Only = ascii "the number"
field_words (Field.Number k) = counted (ascii "number ") k []
field_words (Field.Coefficient k) = counted (ascii "the coefficient of term ") k []

abbrev pub wrong_words : Wrong → List ℕ
wrong_words Wrong.Missing = ascii " is missing"
wrong_words Wrong.MinusZero = ascii " has a zero right after its minus: write 0 with no minus"
wrong_words Wrong.BareMinus = ascii " has no digit after its minus"
wrong_words Wrong.Plus = ascii " has a plus sign: write it with none"
wrong_words Wrong.Comma = ascii " is followed by a comma, and one number is all"
wrong_words Wrong.LeadingZero = ascii " begins with a zero and goes on: write it without that zero"
wrong_words Wrong.LongDigits = ascii " has over 9 digits"
wrong_words Wrong.Point = ascii " has a decimal point: numbers are marks, 1.5 is 98304"
wrong_words Wrong.Other = ascii " has a character that is no digit"
