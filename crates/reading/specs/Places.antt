-- A line where it stands in the text.
use Rattle.std.specs.Prelude.{ℕ, ◌+◌, ◌-◌, ◌≤◌, ◌≡◌, List, cond, length, take, drop, ltb, Err, Result}
use Rattle.digits.specs.Bytes.{line_feed}
use Rattle.text.specs.Cut.{place_of, fresh, feeds}
use Rattle.reading.specs.Lines.{Form, State, Answer, step, ended_cut}

-- the bytes from a up to e
abbrev pub part : List ℕ → ℕ → ℕ → List ℕ
part t a e = take (e - a) (drop a t)

-- how many bytes stand before the first LF
abbrev pub line_length : List ℕ → ℕ
line_length bs = place_of line_feed bs

-- where the line that begins at a ends: the place of the next LF, or the text's length
unfoldable pub line_end : List ℕ → ℕ → ℕ
line_end t a = a + line_length (drop a t)

-- what is made of the bytes of the line that begins at a: "Lines end in one LF, the last too"
unfoldable pub line_at : {F A : Type 0} → F → (List ℕ → Result A F) → List ℕ → ℕ → Result A F
line_at odd f t a = cond (ltb (line_end t a) (length t)) (f (part t a (line_end t a))) (Err odd)

module _ {F L X : Type 0} (g : Form F L X) (t : List ℕ) where
  -- what the text from a on makes of what is read so far
  unfoldable pub rest : State F L X → ℕ → Answer F X
  rest s a = ended_cut g (feeds (step g) line_feed (fresh s) (drop a t))

  -- the lines from a on, the first one of kind k after what v says, lead to s with the next line at b
  pub record Goes (a : ℕ) (k : L) (v : X) (s : State F L X) (b : ℕ) : Type 0 where
    pub inside : b ≤ length t
    pub same : rest (State.at k v) a ≡ rest s b
