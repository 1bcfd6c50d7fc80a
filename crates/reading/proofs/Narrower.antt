-- What a narrower reading answers.
use Prim.Native.Nat.{ℕ, ◌+◌, ◌≤◌}
use native.Mathlib.Omega.{arith}
use mathlib.Core.Path.{◌≡◌, refl, ap, ◌∙◌}
use mathlib.Core.List.{List, [], ◌∷◌, foldl}
use mathlib.Core.Logic.{◌⊎◌, inl, inr}
use mathlib.Core.Bool.{Bool, true, false, cond}
use lib.ListN.{length}
use lib.Dec.{ltb}
use borrow.Author.Tests.{ltb-false, le-ltb}
use Rattle.digits.specs.Bytes.{line_feed}
use Rattle.text.specs.Cut.{pieces, rest}
use Rattle.text.proofs.Pieces.{AllAbove, cut-fold, fed-each}
use Rattle.reading.specs.Lines.{Next, Form, State, Answer, heard, step, begin, opened, more, ended, ended_cut}
use Rattle.reading.specs.Lines.{closed, read, bytes}
use Rattle.reading.specs.Narrower.{NarrowLine, limited, Narrower, NarrowAnswer}
use Rattle.reading.proofs.Decided.{stays-bad}
use Rattle.std.specs.Prelude.{Result}

-- a text is read by its lines, and the bytes after the last of them
pub read-lines : {F L X : Type 0} (g : Form F L X) (t : List ℕ) → length t ≤ g.most
    → read g t ≡ ended g (foldl (step g) (begin g) (pieces line_feed t)) (length (rest line_feed t))
unfolding read closed more opened
read-lines g t h =
    rw (le-ltb g.most (0 + length t) (omega arith))
    (ap (ended_cut g) (cut-fold (step g) line_feed (begin g) t))

-- lines of which one is bad
pub lines-bad : {F L X : Type 0} (g : Form F L X) (ls : List (List ℕ)) (f : F) (n : ℕ) → AllAbove line_feed ls
    → length (bytes ls) ≤ g.most → foldl (step g) (begin g) ls ≡ State.bad f n → read g (bytes ls) ≡ Answer.refused f n
unfolding read closed more opened ended
lines-bad g ls f n plain h e =
    rw (le-ltb g.most (0 + length (bytes ls)) (omega arith), fed-each (step g) line_feed ls (begin g) plain, e)

module _ {F L X : Type 0} (h : Form F L X) (says : L → X → List ℕ → Result (Next L X) F) (most : ℕ) (f : F) (n : ℕ)
    (narrower : Narrower h says most f n) where
  abbrev g : Form F L X
  g = limited h says most

  -- the same state, or the fault
  data Near (s u : State F L X) : Type 0 where
    same : s ≡ u → Near s u
    faulty : s ≡ State.bad f n → Near s u

  heard-near : {r q : Result (Next L X) F} → NarrowLine f r q → Near (heard n r) (heard n q)
  unfolding heard
  heard-near (NarrowLine.same e) = Near.same (ap (heard n) e)
  heard-near (NarrowLine.faulty e) = Near.faulty (ap (heard n) e)

  step-near : (s : State F L X) (l : List ℕ) → Near (step g s l) (step h s l)
  unfolding step
  step-near (State.bad e m) l = Near.same refl
  step-near (State.at k v) l = go (h.last k) (narrower.line k v l)
    where
      go : (b : Bool)
          → (says k v l ≡ h.says k v l) ⊎ ((h.number k v ≡ n) × NarrowLine f (says k v l) (h.says k v l))
          → Near (cond b (State.bad h.odd (h.number k v)) (heard (h.number k v) (says k v l)))
          (cond b (State.bad h.odd (h.number k v)) (heard (h.number k v) (h.says k v l)))
      go true p = Near.same refl
      go false (inl e) = Near.same (ap (heard (h.number k v)) e)
      go false (inr p) = rw p.0 (heard-near p.1)

  fold-near : (ls : List (List ℕ)) {s u : State F L X} → Near s u → Near (foldl (step g) s ls) (foldl (step h) u ls)
  fold-near [] p = p
  fold-near (l ∷ ls) {s} (Near.same e) = rw (← e) (fold-near ls (step-near s l))
  fold-near (l ∷ ls) (Near.faulty e) = rw e (Near.faulty (stays-bad g (l ∷ ls) f n))

  ended-near : {s u : State F L X} (held : ℕ) → Near s u → NarrowAnswer f n h.long (ended g s held) (ended h u held)
  unfolding ended
  ended-near {s} held (Near.same e) = NarrowAnswer.same (same s ∙ ap (λ x. ended h x held) e)
    where
      same : (x : State F L X) → ended g x held ≡ ended h x held
      same (State.at k v) = refl
      same (State.bad e m) = refl
  ended-near held (Near.faulty e) = NarrowAnswer.faulty (ap (λ x. ended g x held) e)

  too_long_lem : (t : List ℕ) → ltb most (length t) ≡ true → read g t ≡ Answer.refused h.long 0
  unfolding read closed more opened
  too_long_lem t e = let n : 0 + length t ≡ length t = omega arith in rw (n, e)

  pub narrow-read : (t : List ℕ) → NarrowAnswer f n h.long (read g t) (read h t)
  narrow-read t = go (ltb most (length t)) refl
    where
      go : (b : Bool) → ltb most (length t) ≡ b → NarrowAnswer f n h.long (read g t) (read h t)
      go true e = NarrowAnswer.too_long (too_long_lem t e)
      go false e =
          let few = ltb-false most (length t) e in
          rw (read-lines g t few, read-lines h t (omega (arith, narrower.fewer)))
          (ended-near (length (rest line_feed t)) (fold-near (pieces line_feed t) (Near.same refl)))
