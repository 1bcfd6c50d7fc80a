-- Pieces that are written with separators are cut again where they were joined, and every text is its pieces with the
-- separators between them.
use Prim.Native.Nat.{ℕ, zero, suc, ◌+◌, ◌/◌, ◌%◌, ◌<◌}
use native.Mathlib.Omega.{arith}
use mathlib.Core.Path.{◌≡◌, refl, sym, ap, ◌∙◌}
use mathlib.Core.List.{List, [], ◌∷◌, ◌++◌, append_assoc, append-nil, foldl, foldl-append}
use mathlib.Core.Bool.{Bool, true, false, cond}
use lib.Dec.{ltb}
use lib.IntN.{ℤ, pos, negsuc}
use Rattle.digits.specs.Bytes.{comma, minus_sign, digit0}
use Rattle.digits.specs.Show.{show_magnitude, show_signed}
use Rattle.digits.proofs.Cases.{same_or}
use Rattle.text.specs.Cut.{Cut, fresh, feed, feeds, snoc, pieces, rest, end_each}
use Rattle.text.specs.Lists.{after_commas, joined}
use Rattle.text.proofs.Cuts.{closed, feed-sep, feed-held, feeds-none, feeds-cons}

-- ---- bytes above a separator

unfoldable pub Above : ℕ → List ℕ → Type 0
Above sep [] = Unit {0}
Above sep (b ∷ bs) = (sep < b) × Above sep bs

unfoldable pub AllAbove : ℕ → List (List ℕ) → Type 0
AllAbove sep [] = Unit {0}
AllAbove sep (l ∷ ls) = Above sep l × AllAbove sep ls

pub above-append : (sep : ℕ) (a b : List ℕ) → Above sep a → Above sep b → Above sep (a ++ b)
unfolding Above
above-append sep [] b p q = q
above-append sep (x ∷ a) b p q = (p.0, above-append sep a b p.1 q)

above-cond : (sep : ℕ) (t : Bool) (a b : List ℕ) → Above sep a → Above sep b → Above sep (cond t a b)
above-cond sep true a b p q = p
above-cond sep false a b p q = q

module _ (sep : ℕ) (h : sep < minus_sign) where
  pub magnitude-above : (k m : ℕ) → Above sep (show_magnitude k m)
  unfolding show_magnitude Above
  magnitude-above zero m = tt
  magnitude-above (suc k) m =
      above-cond sep (ltb m 10) ((digit0 + m) ∷ [])
      (show_magnitude k (m / 10) ++ ((digit0 + m % 10) ∷ [])) (omega arith, tt)
      (above-append sep (show_magnitude k (m / 10)) ((digit0 + m % 10) ∷ [])
      (magnitude-above k (m / 10)) (omega arith, tt))

  pub number-above : (k : ℕ) (v : ℤ) → Above sep (show_signed k v)
  unfolding show_signed Above
  number-above k (pos m) = magnitude-above k m
  number-above k (negsuc m) = (h, magnitude-above k (suc m))

pub commas-above : (sep : ℕ) → sep < comma → (xs : List (List ℕ)) → AllAbove sep xs → Above sep (after_commas xs)
unfolding AllAbove after_commas Above
commas-above sep h [] q = tt
commas-above sep h (x ∷ xs) q = (h, above-append sep x (after_commas xs) q.0 (commas-above sep h xs q.1))

-- ---- from pieces to a text and back

module _ {S : Type 0} (step : S → List ℕ → S) (sep : ℕ) where
  pub feeds-append : (k : Cut S) (a b : List ℕ) → feeds step sep k (a ++ b) ≡ feeds step sep (feeds step sep k a) b
  unfolding feeds
  feeds-append k a b = foldl-append (feed step sep) k a b

  pub feeds-held : (st : S) (h xs : List ℕ) → Above sep xs
      → feeds step sep (record { st = st; held = h }) xs ≡ record { st = st; held = h ++ xs }
  unfolding Above feeds
  feeds-held st h [] q = ap (λ (l : List ℕ). record { st = st; held = l }) (sym (append-nil h))
  feeds-held st h (b ∷ xs) q =
      feeds-cons step sep (record { st = st; held = h }) b xs
      ∙ ap (λ (k : Cut S). feeds step sep k xs)
      (feed-held step sep (record { st = st; held = h }) b (λ e. omega (arith, q.0, e)))
      ∙ feeds-held st (h ++ (b ∷ [])) xs q.1
      ∙ ap (λ (l : List ℕ). record { st = st; held = l }) (append_assoc h (b ∷ []) xs)

  -- a piece and its separator
  pub feeds-piece : (st : S) (xs rest : List ℕ) → Above sep xs
      → feeds step sep (fresh st) (xs ++ (sep ∷ rest)) ≡ feeds step sep (fresh (step st xs)) rest
  feeds-piece st xs rest q =
      feeds-append (fresh st) xs (sep ∷ rest)
      ∙ ap (λ (k : Cut S). feeds step sep k (sep ∷ rest)) (feeds-held st [] xs q)
      ∙ feeds-cons step sep (record { st = st; held = xs }) sep rest
      ∙ ap (λ (k : Cut S). feeds step sep k rest) (feed-sep step sep (record { st = st; held = xs }) sep refl)

  pub fed-each : (ls : List (List ℕ)) (st : S)
      → AllAbove sep ls → feeds step sep (fresh st) (end_each sep ls) ≡ fresh (foldl step st ls)
  unfolding AllAbove end_each feeds
  fed-each [] st q = refl
  fed-each (l ∷ ls) st q = feeds-piece st l (end_each sep ls) q.0 ∙ fed-each ls (step st l) q.1

module _ {S : Type 0} (step : S → List ℕ → S) where
  pub fed-joined : (st : S) (x : List ℕ) (xs : List (List ℕ)) → Above comma x → AllAbove comma xs
      → closed step (feeds step comma (fresh st) (joined (x ∷ xs))) ≡ foldl step st (x ∷ xs)
  unfolding AllAbove joined after_commas
  fed-joined st x [] p q =
      ap (λ (l : List ℕ). closed step (feeds step comma (fresh st) l)) (append-nil x)
      ∙ ap (λ (k : Cut S). closed step k) (feeds-held step comma st [] x p)
  fed-joined st x (y ∷ ys) p q =
      ap (λ (k : Cut S). closed step k) (feeds-piece step comma st x (y ++ after_commas ys) p)
      ∙ fed-joined (step st x) y ys q.0 q.1

-- ---- from a text to its pieces

module _ {S : Type 0} (step : S → List ℕ → S) (sep : ℕ) (st : S) where
  cut-from : (t : List ℕ) (k : Cut (List (List ℕ)))
      → feeds step sep (record { st = foldl step st k.st; held = k.held }) t
      ≡ record { st = foldl step st (feeds snoc sep k t).st; held = (feeds snoc sep k t).held }
  cut-from [] k = rw (feeds-none step sep, feeds-none snoc sep)
  cut-from (b ∷ t) k =
      let now : Cut S = record { st = foldl step st k.st; held = k.held } in
      same_or b sep
      (λ e.
      rw (feeds-cons step sep now b t, feeds-cons snoc sep k b t, feed-sep step sep now b e, feed-sep snoc sep k b e)
      (ap (λ (s : S). feeds step sep (fresh s) t) (sym (foldl-append step st k.st (k.held ∷ [])))
      ∙ cut-from t (fresh (snoc k.st k.held))))
      (λ n.
      rw (feeds-cons step sep now b t, feeds-cons snoc sep k b t, feed-held step sep now b n, feed-held snoc sep k b n)
      (cut-from t (record { st = k.st; held = k.held ++ (b ∷ []) })))

  pub cut-fold : (t : List ℕ)
      → feeds step sep (fresh st) t ≡ record { st = foldl step st (pieces sep t); held = rest sep t }
  unfolding pieces rest
  cut-fold t = cut-from t (fresh [])

end_snoc : (sep : ℕ) (ps : List (List ℕ)) (p : List ℕ) → end_each sep (snoc ps p) ≡ (end_each sep ps ++ p) ++ (sep ∷ [])
unfolding end_each
end_snoc sep [] p = refl
end_snoc sep (q ∷ ps) p =
    ap (λ (l : List ℕ). q ++ (sep ∷ l)) (end_snoc sep ps p)
    ∙ rw (append_assoc q (sep ∷ end_each sep ps) p, append_assoc q (sep ∷ (end_each sep ps ++ p)) (sep ∷ []))

module _ (sep : ℕ) where
  whole_from : (t : List ℕ) (k : Cut (List (List ℕ)))
      → end_each sep (feeds snoc sep k t).st ++ (feeds snoc sep k t).held ≡ (end_each sep k.st ++ k.held) ++ t
  whole_from [] k = rw (feeds-none snoc sep) (sym (append-nil (end_each sep k.st ++ k.held)))
  whole_from (b ∷ t) k =
      same_or b sep
      (λ e.
      rw (feeds-cons snoc sep k b t, feed-sep snoc sep k b e)
      (whole_from t (fresh (snoc k.st k.held))
      ∙ ap (λ (l : List ℕ). l ++ t) (append-nil (end_each sep (snoc k.st k.held)) ∙ end_snoc sep k.st k.held)
      ∙ append_assoc (end_each sep k.st ++ k.held) (sep ∷ []) t
      ∙ ap (λ (c : ℕ). (end_each sep k.st ++ k.held) ++ (c ∷ t)) (sym e)))
      (λ n.
      rw (feeds-cons snoc sep k b t, feed-held snoc sep k b n)
      (whole_from t (record { st = k.st; held = k.held ++ (b ∷ []) })
      ∙ ap (λ (l : List ℕ). l ++ t) (sym (append_assoc (end_each sep k.st) k.held (b ∷ [])))
      ∙ append_assoc (end_each sep k.st ++ k.held) (b ∷ []) t))

  pub cut-whole : (t : List ℕ) → end_each sep (pieces sep t) ++ rest sep t ≡ t
  unfolding pieces rest end_each
  cut-whole t = whole_from t (fresh [])

-- the fields between commas
unfoldable pub fields : List ℕ → List (List ℕ)
fields f = snoc (pieces comma f) (rest comma f)

after-snoc : (ps : List (List ℕ)) (p : List ℕ) → after_commas (snoc ps p) ≡ comma ∷ (end_each comma ps ++ p)
unfolding after_commas end_each
after-snoc [] p = ap (λ (l : List ℕ). comma ∷ l) (append-nil p)
after-snoc (q ∷ ps) p =
    ap (λ (l : List ℕ). comma ∷ (q ++ l)) (after-snoc ps p)
    ∙ ap (λ (l : List ℕ). comma ∷ l) (sym (append_assoc q (comma ∷ end_each comma ps) p))

join-snoc : (ps : List (List ℕ)) (p : List ℕ) → joined (snoc ps p) ≡ end_each comma ps ++ p
unfolding joined after_commas end_each
join-snoc [] p = append-nil p
join-snoc (q ∷ ps) p =
    ap (λ (l : List ℕ). q ++ l) (after-snoc ps p) ∙ sym (append_assoc q (comma ∷ end_each comma ps) p)

pub fields-joined : (f : List ℕ) → joined (fields f) ≡ f
unfolding fields
fields-joined f = join-snoc (pieces comma f) (rest comma f) ∙ cut-whole comma f

pub fields-fold : {S : Type 0} (step : S → List ℕ → S) (st : S) (f : List ℕ)
    → closed step (feeds step comma (fresh st) f) ≡ foldl step st (fields f)
unfolding fields
fields-fold step st f =
    rw (cut-fold step comma st f) (sym (foldl-append step st (pieces comma f) (rest comma f ∷ [])))
