-- Where a text of lines is refused: "lines are taken in order and the first bad line decides".
use Rattle.std.specs.Prelude.{ℕ, ◌≡◌, List, [], ◌∷◌, ◌++◌, true, false, length, Err}
use Rattle.digits.specs.Bytes.{line_feed}
use Rattle.reading.specs.Lines.{Form, State, opened, more, Reads, bytes}
use Rattle.reading.specs.Places.{line_length}

-- bytes without a line feed
pub record Plain (l : List ℕ) : Type 0 where
  pub all : line_length l ≡ length l

abbrev pub AllPlain : List (List ℕ) → Type 0
AllPlain [] = Unit {0}
AllPlain (l ∷ ls) = Plain l × AllPlain ls

module _ {F L X : Type 0} (g : Form F L X) where
  -- one of the lines that end in these first bytes of a text is bad
  abbrev pub Decides : List ℕ → F → ℕ → Type 0
  Decides a f n = (more g (opened g) a).cut.st ≡ State.bad f n

  -- where a line of kind k is to come after lines that say v, and these bytes are left
  pub data NextBad (k : L) (v : X) (f : F) : List ℕ → Type 0 where
    -- the line is there, and says the fault
    said : (l after : List ℕ) → Plain l → g.last k ≡ false → g.says k v l ≡ Err f
        → NextBad k v f (l ++ (line_feed ∷ after))
    -- "a line missing"; "Lines end in one LF, the last too"
    missing : (left : List ℕ) → Plain left → g.last k ≡ false → g.odd ≡ f → NextBad k v f left
    -- "bytes after the last line are an extra line"
    extra : (b : ℕ) (left : List ℕ) → g.last k ≡ true → g.odd ≡ f → NextBad k v f (b ∷ left)

  -- the lines before the bad one are read without fault
  pub record Refused (t : List ℕ) (f : F) (n : ℕ) : Type 0 where
    pub before : List (List ℕ)
    pub left : List ℕ
    pub kind : L
    pub value : X
    pub text : bytes before ++ left ≡ t
    pub plain : AllPlain before
    pub reads : Reads g before kind value
    pub bad : NextBad kind value f left
    pub number : g.number kind value ≡ n
