-- A text is refused for its length, or where its first bad line stands, and nowhere else.
use Prim.Native.Nat.{ℕ, ◌+◌, ◌≤◌}
use native.Mathlib.Omega.{arith}
use mathlib.Core.Path.{◌≡◌, refl, sym, ap, ◌∙◌}
use mathlib.Core.List.{List, [], ◌∷◌, ◌++◌, append_assoc, foldl}
use mathlib.Core.Bool.{Bool, true, false, cond, ◌&&◌}
use mathlib.Core.Logic.{◌↔◌}
use lib.ListN.{length}
use lib.Dec.{eqb}
use borrow.Author.Tests.{le-ltb}
use Rattle.digits.specs.Bytes.{line_feed}
use Rattle.text.specs.Cut.{Cut, fresh, feeds, end_each, pieces, rest}
use Rattle.text.proofs.Pieces.{cut-fold, cut-whole}
use Rattle.reading.specs.Results.{Blamed}
use Rattle.reading.specs.Lines.{Next, Form, State, Answer, heard, step, begin, opened, more, ended, closed}
use Rattle.reading.specs.Lines.{ended_cut, read, bytes}
use Rattle.reading.specs.Places as places
use Rattle.reading.specs.Refused.{Plain, NextBad, Refused}
use Rattle.reading.proofs.Decided.{at-bad, bad-ends, first-bad, bad-number}
use Rattle.reading.proofs.Goes.{and-false, end-extra}
use Rattle.reading.proofs.Reading.{refused-done}
use Rattle.reading.proofs.Plain.{plain-cut, plain-parts, fed-plain, fed-line, fed-lines}
use Rattle.std.specs.Prelude.{Ok, Err, Result}

bytes-from : (a : List (List ℕ)) (l : List ℕ) (b : List (List ℕ)) (left : List ℕ)
    → bytes (a ++ (l ∷ b)) ++ left ≡ bytes a ++ (l ++ (line_feed ∷ (bytes b ++ left)))
unfolding end_each
bytes-from [] l b left = append_assoc l (line_feed ∷ bytes b) left
bytes-from (x ∷ a) l b left =
    append_assoc x (line_feed ∷ bytes (a ++ (l ∷ b))) left
    ∙ ap (λ (y : List ℕ). x ++ (line_feed ∷ y)) (bytes-from a l b left)
    ∙ sym (append_assoc x (line_feed ∷ bytes a) (l ++ (line_feed ∷ (bytes b ++ left))))

module _ {F L X : Type 0} (g : Form F L X) where
  -- what is wrong with a line that is there
  line-bad : (k : L) (v : X) (l after : List ℕ) (f : F) (n : ℕ) → Plain l → step g (State.at k v) l ≡ State.bad f n
      → NextBad g k v f (l ++ (line_feed ∷ after))
  unfolding step heard
  line-bad k v l after f n plain e = go (g.last k) refl (g.says k v l) refl e
    where
      -- one byte at least
      more-than-none : (l : List ℕ) → g.last k ≡ true → g.odd ≡ f → NextBad g k v f (l ++ (line_feed ∷ after))
      more-than-none [] o q = NextBad.extra line_feed after o q
      more-than-none (b ∷ l) o q = NextBad.extra b (l ++ (line_feed ∷ after)) o q

      go : (t : Bool) → g.last k ≡ t → (r : Result (Next L X) F) → g.says k v l ≡ r
          → cond t (State.bad g.odd (g.number k v)) (heard (g.number k v) r) ≡ State.bad f n
          → NextBad g k v f (l ++ (line_feed ∷ after))
      go true o r p q = let same : g.odd ≡ f = cc in more-than-none l o same
      go false o (Err x) p q =
          let same : x ≡ f = cc in NextBad.said l after plain o (p ∙ ap Err same)
      go false o (Ok x) p q = at-bad q

  -- and with one that is not
  end-bad : (k : L) (v : X) (f : F) (left : List ℕ) → Plain left → eqb (length left) 0 && g.last k ≡ false
      → g.odd ≡ f → NextBad g k v f left
  end-bad k v f left plain e odd = go (g.last k) refl left plain e
    where
      go : (t : Bool) → g.last k ≡ t → (left : List ℕ) → Plain left → eqb (length left) 0 && t ≡ false
          → NextBad g k v f left
      go false o left plain e = NextBad.missing left plain o odd
      go true o [] plain e = absurd (let z : ◌≡◌ {A = ℕ} 0 1 = cc in omega arith)
      go true o (b ∷ left) plain e = NextBad.extra b left o odd

  module _ (t : List ℕ) (f : F) (n : ℕ) where
    -- one of its lines is bad
    line_refused : foldl (step g) (begin g) (pieces line_feed t) ≡ State.bad f n → Refused g t f n
    line_refused e =
        let b = first-bad g (pieces line_feed t) f n e in
        let plain = plain-parts t b.before b.line b.after b.lines in
        record {
          before = b.before;
          left = b.line ++ (line_feed ∷ (bytes b.after ++ rest line_feed t));
          kind = b.kind;
          value = b.value;
          text = sym (bytes-from b.before b.line b.after (rest line_feed t))
              ∙ ap (λ (ls : List (List ℕ)). bytes ls ++ rest line_feed t) b.lines
              ∙ cut-whole line_feed t;
          plain = plain.0;
          reads = b.reads;
          bad =
              line-bad b.kind b.value b.line (bytes b.after ++ rest line_feed t) f n plain.1 b.bad;
          number = bad-number g b.kind b.value b.line f n b.bad;
        }

    -- none is, and the next one is missing, or there is one too many
    end_refused : (s : State F L X) → foldl (step g) (begin g) (pieces line_feed t) ≡ s
        → ended g s (length (rest line_feed t)) ≡ Answer.refused f n → Refused g t f n
    unfolding ended
    end_refused (State.bad f' n') p e =
        let same : ◌≡◌ {A = State F L X} (State.bad f' n') (State.bad f n) = cc in line_refused (p ∙ same)
    end_refused (State.at k v) p e = go (eqb (length (rest line_feed t)) 0 && g.last k) refl e
      where
        go : (b : Bool) → (eqb (length (rest line_feed t)) 0 && g.last k) ≡ b
            → cond b (Answer.done v) (Answer.refused g.odd (g.number k v)) ≡ Answer.refused f n
            → Refused g t f n
        go true o q = refused-done (sym q)
        go false o q =
            let fault : g.odd ≡ f = cc in
            let number : g.number k v ≡ n = cc in
            record {
              before = pieces line_feed t;
              left = rest line_feed t;
              kind = k;
              value = v;
              text = cut-whole line_feed t;
              plain = (plain-cut t).0;
              reads = record { leaves = p };
              bad = end-bad k v f (rest line_feed t) (plain-cut t).1 o fault;
              number = number;
            }

    refused-at : length t ≤ g.most → read g t ≡ Answer.refused f n → Refused g t f n
    unfolding read closed more opened
    refused-at h e =
        let fold = cut-fold (step g) line_feed (begin g) t in
        end_refused (foldl (step g) (begin g) (pieces line_feed t)) refl
        (ap (λ (c : Cut (State F L X)). ended g c.st (length c.held)) (sym fold)
        ∙ (rw (le-ltb g.most (0 + length t) (omega arith)) at e))

    -- the bad line decides, whatever follows it
    next-bad : (k : L) (v : X) (left : List ℕ) → NextBad g k v f left
        → ended_cut g (feeds (step g) line_feed (fresh (State.at k v)) left) ≡ Answer.refused f (g.number k v)
    unfolding step heard ended places.rest
    next-bad k v left (NextBad.said l after plain o e) =
        ap (ended_cut g) (fed-line (step g) (State.at k v) l after plain)
        ∙ bad-ends g after f (g.number k v) (fresh (step g (State.at k v) l)) (rw (o, e))
    next-bad k v left (NextBad.missing bs plain o e) =
        ap (ended_cut g) (fed-plain (step g) bs [] (State.at k v) plain.all)
        ∙ rw (o, and-false (eqb (length bs) 0)) (ap (λ (x : F). Answer.refused x (g.number k v)) e)
    next-bad k v left (NextBad.extra b bs o e) =
        end-extra g (b ∷ bs) k v 0 (omega arith) o (omega arith) ∙ ap (λ (x : F). Answer.refused x (g.number k v)) e

    refused-by : length t ≤ g.most → Refused g t f n → read g t ≡ Answer.refused f n
    unfolding read closed more opened
    refused-by h r =
        rw (le-ltb g.most (0 + length t) (omega arith))
        (ap (λ (bs : List ℕ). ended_cut g (feeds (step g) line_feed (fresh (begin g)) bs)) (sym r.text)
        ∙ ap (ended_cut g) (fed-lines (step g) r.before (begin g) r.left r.plain)
        ∙ ap (λ (s : State F L X). ended_cut g (feeds (step g) line_feed (fresh s) r.left)) r.reads.leaves
        ∙ next-bad r.kind r.value r.left r.bad
        ∙ ap (Answer.refused f) r.number)

    pub refused-exactly : length t ≤ g.most → (read g t ≡ Answer.refused f n) ↔ Refused g t f n
    refused-exactly h = (refused-at h, refused-by h)

-- a text that is refused for a line has a fault that lines have
pub refused-blamed : {F L X : Type 0} {g : Form F L X} (P : F → Type 0) → P g.odd
    → ((k : L) (v : X) (l : List ℕ) → Blamed P (g.says k v l)) → {t : List ℕ} {f : F} {n : ℕ} → Refused g t f n → P f
refused-blamed {F} {L} {X} {g} P odd says {f = f} r = go r.left r.bad
  where
    go : (left : List ℕ) → NextBad g r.kind r.value f left → P f
    go left (NextBad.said l after plain o e) = (says r.kind r.value l).blamed f e
    go left (NextBad.missing bs plain o e) = rw (← e) odd
    go left (NextBad.extra b bs o e) = rw (← e) odd
