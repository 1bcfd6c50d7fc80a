-- A whole line at its place: "Lines end in one LF, the last too".
use Rattle.std.specs.Prelude.{ℕ, ◌+◌, ◌≤◌, ◌≡◌, List, [], ◌∷◌, Bool, true, false, cond, length, take, replicate, eqb}
use Rattle.std.specs.Prelude.{ltb, ℤ, pos, Result, Option, Some, None}
use Rattle.digits.specs.Bytes.{line_feed}
use Rattle.digits.specs.Number.{read_number}
use Rattle.text.specs.Counts.{in_count}
use Rattle.text.specs.Keys.{same_bytes, body_of}
use Rattle.text.specs.Lists.{places_max, read_list}
use Rattle.text.specs.Lists.{Numbers}
use Rattle.scan.specs.declared.At.{At}
use Rattle.reading.specs.Places.{part, line_end}
use Rattle.text.specs.declared.Uncounted.{Uncounted}

-- the bytes of the line that begins at a
abbrev pub line_of : List ℕ → ℕ → List ℕ
line_of t a = part t a (line_end t a)

-- an LF ends the line that begins at a, and this is so of its bytes
abbrev pub ended_and : List ℕ → ℕ → Bool → Bool
ended_and t a ok = cond (ltb (line_end t a) (length t)) ok false

-- no LF stands in these bytes: a key, or the whole line
abbrev pub no_feed : List ℕ → Bool
no_feed [] = true
no_feed (b ∷ bs) = cond (eqb b line_feed) false (no_feed bs)

-- ---- a list

-- places for a list's numbers, each zero
pub record Ready (vals : List ℤ) : Type 0 where
  pub few : length vals ≤ places_max
  pub zero : vals ≡ replicate (length vals) (pos 0)

-- the numbers that stand after the key
abbrev pub numbers_at : List ℕ → List ℕ → ℕ → Numbers
numbers_at key t a = read_list (body_of key (line_of t a))

-- how many they are, and where the next line begins
unfoldable pub list_at_of : Bool → Numbers → ℕ → Option (At ℕ)
list_at_of true l e = Some (record { value = l.count; next = e + 1 })
list_at_of false l e = None

-- as many of the numbers as there are places; beside a line that is wrongly spelled each is zero
unfoldable pub places_of : Bool → Numbers → ℕ → List ℤ
places_of true l k = take k l.vals
places_of false l k = replicate k (pos 0)

-- what is told of the line that begins at a, and what its places, `old`, then hold
pub record ListFrom (key t : List ℕ) (a : ℕ) (r : Option (At ℕ)) (old vals : List ℤ) : Type 0 where
  pub answer : r ≡ list_at_of (ended_and t a (numbers_at key t a).ok) (numbers_at key t a) (line_end t a)
  pub places : vals ≡ places_of (ended_and t a (numbers_at key t a).ok) (numbers_at key t a) (length old)

-- ---- one number

-- the number that stands after the key
abbrev pub number_of : List ℕ → List ℕ → ℕ → Option ℤ
number_of key t a = cond (ltb (line_end t a) (length t)) (read_number (body_of key (line_of t a))) None

-- it as a count, or that it is beyond its limit, and where the next line begins
unfoldable pub counted_of : ℕ → Option ℤ → ℕ → Option (At (Result ℕ Uncounted))
counted_of most (Some v) e = Some (record { value = in_count most v; next = e + 1 })
counted_of most None e = None

-- what is told of the line that begins at a
abbrev pub CountFrom : ℕ → List ℕ → List ℕ → ℕ → Option (At (Result ℕ Uncounted)) → Type 0
CountFrom most key t a r = r ≡ counted_of most (number_of key t a) (line_end t a)

-- ---- known bytes

-- the line is these bytes
abbrev pub line_is : List ℕ → List ℕ → ℕ → Bool
line_is line t a = ended_and t a (same_bytes line (line_of t a))
