-- A value as a text of lines: its lines in their order, what the check of each finds, and what a reader has of the
-- value by then.
use Rattle.std.specs.Prelude.{ℕ, ◌≡◌, List, [], ◌∷◌, map, Ok, Err, Result}
use Rattle.reading.specs.Lines.{Form, Answer}

pub record Shows (F L X : Type 0) : Type 0 where
  -- the line of some kind, the kinds of the lines before it, and the kind after it
  pub line : L → X → List ℕ
  pub prior : L → X → List L
  pub next : L → X → L
  -- the kind where no line is left
  pub end : L
  -- what the check of the values of a line finds
  pub check : L → X → Result (Unit {0}) F
  -- what is read of a value before a line of some kind
  pub upto : L → X → X

module _ {F L X : Type 0} (w : Shows F L X) where
  abbrev pub lines_of : X → List L → List (List ℕ)
  lines_of q ks = map (λ k. w.line k q) ks

  abbrev pub before : L → X → List (List ℕ)
  before k q = lines_of q (w.prior k q)

  abbrev pub shown : X → List (List ℕ)
  shown q = before w.end q

  -- "the same values in the live places": what is read when no line is left
  abbrev pub live : X → X
  live q = w.upto w.end q

  -- no check of these kinds finds a fault
  abbrev pub Passed : List L → X → Type 0
  Passed [] v = Unit {0}
  Passed (k ∷ ks) v = (w.check k v ≡ Ok tt) × Passed ks v

  -- what holds of a value that is read up to a line of some kind: the checks of the lines before it, and nothing
  -- more is read
  pub record Kept (k : L) (v : X) : Type 0 where
    pub passed : Passed (w.prior k v) v
    pub only : w.upto k v ≡ v

unfoldable pub unless_found : {F X : Type 0} → Result (Unit {0}) F → ℕ → Answer F X → Answer F X
unless_found (Ok u) n a = a
unless_found (Err f) n a = Answer.refused f n

module _ {F L X : Type 0} (g : Form F L X) (w : Shows F L X) (q : X) where
  -- "Values handed over without text get the same checks in the same line order."
  unfoldable pub findings : List L → Answer F X
  findings [] = Answer.done (live w q)
  findings (k ∷ ks) = unless_found (w.check k q) (g.number k (w.upto k q)) (findings ks)

  abbrev pub judged : Answer F X
  judged = findings (w.prior w.end q)
