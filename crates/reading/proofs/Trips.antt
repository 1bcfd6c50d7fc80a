-- "Text to values to text gives the same bytes. Values to text to values gives the same values in the live places."
use Prim.Native.Nat.{ℕ, ◌+◌, ◌≤◌}
use mathlib.Core.Path.{◌≡◌, sym, ap, ◌∙◌}
use mathlib.Core.List.{List, [], ◌∷◌, ◌++◌}
use mathlib.Core.Bool.{true, false}
use mathlib.Core.Logic.{◌↔◌, inl, inr}
use lib.ListN.{length}
use Rattle.digits.specs.Bytes.{line_feed}
use Rattle.text.proofs.Pieces.{Above}
use Rattle.reading.specs.Results.{Told}
use Rattle.reading.specs.Lines.{Form, Next, Answer, read, Reads, bytes}
use Rattle.reading.specs.Refused.{Refused}
use Rattle.reading.specs.Shows.{Shows, lines_of, before, shown, live, Passed, Kept, judged}
use Rattle.reading.proofs.Reading.{was, each_line}
use Rattle.reading.proofs.Walk.{Tied, Law, Ready, passed-done, read-shown}

-- what a line leaves
pub record Grown {F L X : Type 0} (w : Shows F L X) (Has : X → L → Type 0) (k : L) (v : X) (l : List ℕ) (x : Next L X)
    : Type 0 where
  pub lines : before w x.kind x.value ≡ before w k v ++ (l ∷ [])
  pub kept : Kept w x.kind x.value
  pub has : Has x.value x.kind

pub line_same : {F L X : Type 0} (w : Shows F L X) (k : L) (v : X) {y l : List ℕ} → y ≡ l
    → before w k v ++ (y ∷ []) ≡ before w k v ++ (l ∷ [])
line_same w k v e = ap (λ (y : List ℕ). before w k v ++ (y ∷ [])) e

-- Kept tells what holds of a value that is read up to some kind; Has the kinds that are reached where no check before
-- finds a fault; Spelt, of a value that is shown, those whose values can be spelled
module _ {F L X : Type 0} (g : Form F L X) (w : Shows F L X) (Has Spelt : X → L → Type 0) where
  -- what each kind of line is to satisfy
  pub record Laws : Type 0 where
    pub none : w.prior g.first g.none ≡ []
    -- a line that is read is the one that is shown for the value that it leaves, after those that were shown before
    pub grows : (k : L) (v : X) (l : List ℕ) → g.last k ≡ false → Kept w k v → Has v k
        → Told (Grown w Has k v l) (g.says k v l)
    pub ends : (k : L) → g.last k ≡ true → k ≡ w.end
    -- a line's number counts the lines before it, from 1
    pub counted : (k : L) (v : X) → Kept w k v → g.number k v ≡ length (before w k v) + 1
    -- the lines that are shown
    pub last : g.last w.end ≡ true
    pub nothing : (q : X) → w.upto g.first q ≡ g.none
    pub has : (q : X) → Has q g.first
    pub tied : (q : X) → Tied g w q g.first (w.prior w.end q)
    pub law : (q : X) (k : L) → Has q k → g.last k ≡ false → Law g w q (Has q) (Spelt q) k
    pub plain : (q : X) (k : L) → Above line_feed (w.line k q)
    pub short : (q : X) → Passed w (w.prior w.end q) q → length (bytes (shown w q)) ≤ g.most

  module _ (laws : Laws) where
    shown_read : (q : X) → Ready g w q (Has q) (Spelt q) (w.prior w.end q) → length (bytes (shown w q)) ≤ g.most
        → read g (bytes (shown w q)) ≡ judged g w q
    shown_read q =
        read-shown g w q (Has q) (Spelt q) laws.last (laws.law q) (laws.nothing q) (laws.has q) (laws.tied q)
        (laws.plain q)

    -- a value's text is refused with the fault that the checks of its values find, under the same line
    pub same-order : (q : X) → ((k : L) → Has q k → Spelt q k) → length (bytes (shown w q)) ≤ g.most
        → read g (bytes (shown w q)) ≡ judged g w q
    same-order q s m =
        shown_read q (inr s) m

    pub read-write : (q : X) → Passed w (w.prior w.end q) q → read g (bytes (shown w q)) ≡ Answer.done (live w q)
    read-write q p = shown_read q (inl p) (laws.short q p) ∙ passed-done g w q (w.prior w.end q) p

    pub lines-were : (ls : List (List ℕ)) (k : L) (v : X) → Reads g ls k v → (before w k v ≡ ls) × Kept w k v × Has v k
    lines-were =
        each_line g (λ ls k v. (before w k v ≡ ls) × Kept w k v × Has v k)
        (λ ls k v l p o. record {
          told = λ x e.
              let now = (laws.grows k v l o p.1 p.2).told x e in
              (now.lines ∙ ap (λ (xs : List (List ℕ)). xs ++ (l ∷ [])) p.0, now.kept, now.has);
        }) (
          ap (lines_of w g.none) laws.none,
          record { passed = rw laws.none tt; only = laws.nothing g.none },
          laws.has g.none,
        )

    -- "a line counted from 1": the first bad line is named by its place
    pub numbered : (t : List ℕ) (f : F) (n : ℕ) (r : Refused g t f n) → n ≡ length r.before + 1
    numbered t f n r =
        let were = lines-were r.before r.kind r.value r.reads in
        sym r.number
        ∙ laws.counted r.kind r.value were.1
        ∙ ap (λ (xs : List (List ℕ)). length xs + 1) were.0

    pub write_read : (t : List ℕ) (q : X) → read g t ≡ Answer.done q → (bytes (shown w q) ≡ t) × Kept w w.end q
    write_read t q e =
        let r = was g t q e in
        let were = lines-were r.lines r.kind q r.reads in
        let end = laws.ends r.kind r.last in
        (ap (λ (k : L). bytes (before w k q)) (sym end) ∙ ap bytes were.0 ∙ r.text, rw end at were.1)

    -- a text is read without fault exactly where it is the bytes of a value without one and with nothing in its dead
    -- places
    pub exactly : (t : List ℕ) (q : X) → (read g t ≡ Answer.done q) ↔ ((bytes (shown w q) ≡ t) × Kept w w.end q)
    exactly t q =
        (write_read t q, λ h. ap (read g) (sym h.0) ∙ read-write q h.1.passed ∙ ap Answer.done h.1.only)
