-- A text of lines, read and written: document 01, "The job text and the result text" and "Fault numbers", for any
-- value.
-- F are the faults, L the kinds of lines, X the values.
use Rattle.std.specs.Prelude.{ℕ, ◌+◌, ◌≡◌, Bool, cond, ◌&&◌, length, eqb, ltb, Ok, Err, Result}
use mathlib.Core.List.{List, [], ◌∷◌, ◌++◌, foldl}
use Rattle.digits.specs.Bytes.{line_feed}
use Rattle.text.specs.Cut.{Cut, fresh, feeds, end_each}

-- what a line leaves: the kind of the line after it, and what all lines so far say
pub record Next (L X : Type 0) : Type 0 where
  pub kind : L
  pub value : X

-- what is to be told of a text, so that it can be read
pub record Form (F L X : Type 0) : Type 0 where
  -- the kind of its first line, and the value of which nothing is read
  pub first : L
  pub none : X
  -- whether no line is left
  pub last : L → Bool
  -- the number of a line of this kind, where the lines before it say this
  pub number : L → X → ℕ
  pub says : L → X → List ℕ → Result (Next L X) F
  -- how many bytes a text may have, and the fault of one that has more
  pub most : ℕ
  pub long : F
  -- "a line missing, extra, wrongly spelled"
  pub odd : F

-- what is read so far: the kind of the next line and what the lines before it say, or the first bad line's fault
-- and number
pub data State (F L X : Type 0) : Type 0 where
  at : L → X → State F L X
  bad : F → ℕ → State F L X

pub data Answer (F X : Type 0) : Type 0 where
  done : X → Answer F X
  refused : F → ℕ → Answer F X

-- a text that arrives in parts: the lines that have ended, the bytes of the one that has not, and how many bytes came
pub record Part (F L X : Type 0) : Type 0 where
  pub cut : Cut (State F L X)
  pub size : ℕ

unfoldable pub heard : {F L X : Type 0} → ℕ → Result (Next L X) F → State F L X
heard n (Ok x) = State.at x.kind x.value
heard n (Err f) = State.bad f n

module _ {F L X : Type 0} (g : Form F L X) where
  -- "lines are taken in order and the first bad line decides"; "bytes after the last line are an extra line"
  unfoldable pub step : State F L X → List ℕ → State F L X
  step (State.at k v) l = cond (g.last k) (State.bad g.odd (g.number k v)) (heard (g.number k v) (g.says k v l))
  step (State.bad f n) l = State.bad f n

  abbrev pub begin : State F L X
  begin = State.at g.first g.none

  unfoldable pub opened : Part F L X
  opened = record { cut = fresh begin; size = 0 }

  unfoldable pub more : Part F L X → List ℕ → Part F L X
  more p bs = record { cut = feeds step line_feed p.cut bs; size = p.size + length bs }

  -- "A missing line is named by the number it would have had"; "Lines end in one LF, the last too"
  unfoldable pub ended : State F L X → ℕ → Answer F X
  ended (State.bad f n) held = Answer.refused f n
  ended (State.at k v) held = cond (eqb held 0 && g.last k) (Answer.done v) (Answer.refused g.odd (g.number k v))

  -- where no byte is left
  abbrev pub ended_cut : Cut (State F L X) → Answer F X
  ended_cut c = ended c.st (length c.held)

  -- "Fault 1 comes first", with line 0
  unfoldable pub closed : Part F L X → Answer F X
  closed p = cond (ltb g.most p.size) (Answer.refused g.long 0) (ended_cut p.cut)

  -- the whole text is one part
  unfoldable pub read : List ℕ → Answer F X
  read t = closed (more opened t)

  -- these lines are read without fault, leave this value, and a line of this kind comes next
  pub record Reads (ls : List (List ℕ)) (k : L) (v : X) : Type 0 where
    pub leaves : foldl step begin ls ≡ State.at k v

-- "Lines end in one LF, the last too."
abbrev pub bytes : List (List ℕ) → List ℕ
bytes ls = end_each line_feed ls

-- parts of a text, one after another
unfoldable pub joined_parts : List (List ℕ) → List ℕ
joined_parts [] = []
joined_parts (p ∷ ps) = p ++ joined_parts ps
