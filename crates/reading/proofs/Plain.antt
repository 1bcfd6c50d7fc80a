-- The lines of a text, and the bytes after its last line feed, hold none.
use Prim.Native.Nat.{ℕ, suc}
use native.Mathlib.Omega.{arith}
use mathlib.Core.Path.{◌≡◌, refl, sym, ap, ◌∙◌}
use mathlib.Core.List.{List, [], ◌∷◌, ◌++◌, append_assoc, append-nil, foldl}
use mathlib.Core.Bool.{Bool, true, false, cond}
use lib.ListN.{length}
use lib.Dec.{eqb}
use borrow.Author.Tests.{eqb-false, ne_eqb}
use Rattle.digits.specs.Bytes.{line_feed}
use Rattle.text.specs.Cut.{Cut, fresh, feed, feeds, place_of, end_each, pieces, rest}
use Rattle.text.proofs.Cuts.{feed-sep, feed-held, feeds-none, feeds-cons}
use Rattle.text.proofs.Pieces.{feeds-append}
use Rattle.reading.specs.Lines.{bytes}
use Rattle.reading.specs.Places.{line_length}
use Rattle.reading.specs.Refused.{Plain, AllPlain}

plain_more : (l : List ℕ) (b : ℕ) → (b ≡ line_feed → ⊥) → line_length l ≡ length l
    → line_length (l ++ (b ∷ [])) ≡ length (l ++ (b ∷ []))
unfolding place_of
plain_more [] b n e = rw (ne_eqb b line_feed n)
plain_more (x ∷ l) b n e = go (eqb x line_feed) e (plain_more l b n)
  where
    go : (t : Bool) → cond t 0 (suc (line_length l)) ≡ suc (length l)
        → (line_length l ≡ length l → line_length (l ++ (b ∷ [])) ≡ length (l ++ (b ∷ [])))
        → cond t 0 (suc (line_length (l ++ (b ∷ [])))) ≡ suc (length (l ++ (b ∷ [])))
    go true q on = absurd (omega arith)
    go false q on = ap suc (on (omega arith))

all_more : (ls : List (List ℕ)) (l : List ℕ) → AllPlain ls → Plain l → AllPlain (ls ++ (l ∷ []))
all_more [] l p q = (q, tt)
all_more (x ∷ ls) l p q = (p.0, all_more ls l p.1 q)

all-parts : (before : List (List ℕ)) (l : List ℕ) (after : List (List ℕ)) → AllPlain (before ++ (l ∷ after))
    → AllPlain before × Plain l
all-parts [] l after p = (tt, p.0)
all-parts (x ∷ before) l after p = let q = all-parts before l after p.1 in ((p.0, q.0), q.1)

abbrev next : List (List ℕ) → List ℕ → List (List ℕ)
next ls l = ls ++ (l ∷ [])

-- one byte more
abbrev fed : Cut (List (List ℕ)) → ℕ → Bool → Cut (List (List ℕ))
fed c b ends = cond ends (fresh (next c.st c.held)) (record { st = c.st; held = c.held ++ (b ∷ []) })

abbrev PlainCut : Cut (List (List ℕ)) → Type 0
PlainCut c = AllPlain c.st × Plain c.held

plain-fed : (c : Cut (List (List ℕ))) (b : ℕ) (ends : Bool) → eqb b line_feed ≡ ends → PlainCut c
    → PlainCut (fed c b ends)
unfolding place_of
plain-fed c b true e p = (all_more c.st c.held p.0 p.1, record { all = refl })
plain-fed c b false e p = (p.0, record { all = plain_more c.held b (eqb-false b line_feed e) p.1.all })

plain-from : (t : List ℕ) (c : Cut (List (List ℕ))) → PlainCut c → PlainCut (feeds next line_feed c t)
unfolding feeds feed
plain-from [] c p = p
plain-from (b ∷ t) c p = plain-from t (feed next line_feed c b) (plain-fed c b (eqb b line_feed) refl p)

module _ (t : List ℕ) where
  pub plain-cut : AllPlain (pieces line_feed t) × Plain (rest line_feed t)
  unfolding pieces rest place_of
  plain-cut = plain-from t (fresh []) (tt, record { all = refl })

  pub plain-parts : (before : List (List ℕ)) (l : List ℕ) (after : List (List ℕ))
      → before ++ (l ∷ after) ≡ pieces line_feed t → AllPlain before × Plain l
  plain-parts before l after e = all-parts before l after (rw e plain-cut.0)

-- ---- and such lines are taken one by one

module _ {S : Type 0} (step : S → List ℕ → S) where
  abbrev holding : S → List ℕ → Cut S
  holding s h = record { st = s; held = h }

  pub fed-plain : (l h : List ℕ) (s : S) → line_length l ≡ length l
      → feeds step line_feed (holding s h) l ≡ holding s (h ++ l)
  unfolding place_of
  fed-plain [] h s e = feeds-none step line_feed (holding s h) ∙ ap (holding s) (sym (append-nil h))
  fed-plain (b ∷ l) h s e = go (eqb b line_feed) refl e (fed-plain l (h ++ (b ∷ [])) s)
    where
      go : (t : Bool) → eqb b line_feed ≡ t → cond t 0 (suc (line_length l)) ≡ suc (length l)
          → (line_length l ≡ length l
          → feeds step line_feed (holding s (h ++ (b ∷ []))) l ≡ holding s ((h ++ (b ∷ [])) ++ l))
          → feeds step line_feed (holding s h) (b ∷ l) ≡ holding s (h ++ (b ∷ l))
      go true p q on = absurd (omega arith)
      go false p q on =
          feeds-cons step line_feed (holding s h) b l
          ∙ ap (λ (c : Cut S). feeds step line_feed c l)
          (feed-held step line_feed (holding s h) b (eqb-false b line_feed p))
          ∙ on (omega arith)
          ∙ ap (holding s) (append_assoc h (b ∷ []) l)

  pub fed-line : (s : S) (l left : List ℕ) → Plain l
      → feeds step line_feed (fresh s) (l ++ (line_feed ∷ left)) ≡ feeds step line_feed (fresh (step s l)) left
  fed-line s l left p =
      feeds-append step line_feed (fresh s) l (line_feed ∷ left)
      ∙ ap (λ (c : Cut S). feeds step line_feed c (line_feed ∷ left)) (fed-plain l [] s p.all)
      ∙ feeds-cons step line_feed (holding s l) line_feed left
      ∙ ap (λ (c : Cut S). feeds step line_feed c left) (feed-sep step line_feed (holding s l) line_feed refl)

  pub fed-lines : (ls : List (List ℕ)) (s : S) (left : List ℕ) → AllPlain ls
      → feeds step line_feed (fresh s) (bytes ls ++ left) ≡ feeds step line_feed (fresh (foldl step s ls)) left
  unfolding end_each
  fed-lines [] s left p = refl
  fed-lines (l ∷ ls) s left p =
      ap (feeds step line_feed (fresh s)) (append_assoc l (line_feed ∷ bytes ls) left)
      ∙ fed-line s l (bytes ls ++ left) p.0
      ∙ fed-lines ls (step s l) left p.1
