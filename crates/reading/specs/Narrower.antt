-- Two readings of the same lines, one of which takes less: it has a lower limit of bytes, and a fault for a line that
-- the other may take.
use Rattle.std.specs.Prelude.{ℕ, ◌≤◌, ◌≡◌, List, ◌⊎◌, Err, Result}
use Rattle.reading.specs.Lines.{Form, Next, Answer}

-- a form with other lines and another limit of bytes
abbrev pub limited : {F L X : Type 0} → Form F L X → (L → X → List ℕ → Result (Next L X) F) → ℕ → Form F L X
limited h says most = record {
  first = h.first;
  none = h.none;
  last = h.last;
  number = h.number;
  says = says;
  most = most;
  long = h.long;
  odd = h.odd;
}

-- what the narrower one makes of a line: the same, or its fault f
pub data NarrowLine {F A : Type 0} (f : F) (narrow wide : Result A F) : Type 0 where
  same : narrow ≡ wide → NarrowLine f narrow wide
  faulty : narrow ≡ Err f → NarrowLine f narrow wide

-- the lines are the same but for those of one kind, whose number is n
pub record Narrower {F L X : Type 0} (h : Form F L X) (says : L → X → List ℕ → Result (Next L X) F) (most : ℕ) (f : F)
    (n : ℕ) : Type 0 where
  pub line : (k : L) (v : X) (l : List ℕ)
      → (says k v l ≡ h.says k v l) ⊎ ((h.number k v ≡ n) × NarrowLine f (says k v l) (h.says k v l))
  pub fewer : most ≤ h.most

-- what the narrower one answers: the same, or its fault on line n, or that the text is too long
pub data NarrowAnswer {F X : Type 0} (f : F) (n : ℕ) (long : F) (narrow wide : Answer F X) : Type 0 where
  same : narrow ≡ wide → NarrowAnswer f n long narrow wide
  faulty : narrow ≡ Answer.refused f n → NarrowAnswer f n long narrow wide
  too_long : narrow ≡ Answer.refused long 0 → NarrowAnswer f n long narrow wide
