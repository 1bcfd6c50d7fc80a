-- Lines and texts that are read without fault.
use Prim.Native.Nat.{ℕ, ◌+◌}
use native.Mathlib.Omega.{arith}
use mathlib.Core.Path.{◌≡◌, refl, sym, ap, ◌∙◌}
use mathlib.Core.List.{List, [], ◌∷◌, ◌++◌, append_assoc, append-nil, foldl}
use mathlib.Core.Bool.{Bool, true, false, cond, ◌&&◌}
use lib.ListN.{length}
use lib.Dec.{eqb, ltb}
use borrow.Author.Tests.{eqb-true}
use Rattle.digits.specs.Bytes.{line_feed}
use Rattle.text.specs.Cut.{Cut, pieces, rest}
use Rattle.text.proofs.Pieces.{cut-fold, cut-whole}
use Rattle.text.proofs.Keys.{both}
use Rattle.reading.specs.Results.{Told}
use Rattle.reading.specs.Lines.{Next, Form, State, Answer, heard, step, begin, opened, more, ended, closed}
use Rattle.reading.specs.Lines.{read, Reads, bytes}
use Rattle.reading.proofs.Decided.{at-bad, stays-bad}
use Rattle.std.specs.Prelude.{Ok, Err, Result}

-- a refusal is no value
pub refused-done : {A F X : Type 0} {f : F} {n : ℕ} {v : X}
    → ◌≡◌ {A = Answer F X} (Answer.refused f n) (Answer.done v) → A
refused-done e = let z : ◌≡◌ {A = ℕ} 0 1 = cc in absurd (omega arith)

no_bytes : (l : List ℕ) → length l ≡ 0 → l ≡ []
no_bytes [] e = refl
no_bytes (b ∷ l) e = absurd (omega (arith, e))

module _ {F L X : Type 0} (g : Form F L X) where
  -- a line that is read without fault says what comes next
  record Said (k : L) (v : X) (l : List ℕ) : Type 0 where
    next : Next L X
    left : g.last k ≡ false
    says : g.says k v l ≡ Ok next
    is : State.at next.kind next.value ≡ step g (State.at k v) l

  said : (k : L) (v : X) (l : List ℕ) (ls : List (List ℕ)) (k' : L) (v' : X)
      → foldl (step g) (step g (State.at k v) l) ls ≡ State.at k' v' → Said k v l
  unfolding step heard
  said k v l ls k' v' e = go (g.last k) refl (g.says k v l) refl e
    where
      go : (t : Bool) → g.last k ≡ t → (r : Result (Next L X) F) → g.says k v l ≡ r
          → foldl (step g) (cond t (State.bad g.odd (g.number k v)) (heard (g.number k v) r)) ls ≡ State.at k' v'
          → Said k v l
      go true p r q f = at-bad (sym f ∙ stays-bad g ls g.odd (g.number k v))
      go false p (Err x) q f = at-bad (sym f ∙ stays-bad g ls x (g.number k v))
      go false p (Ok x) q f = record { next = x; left = p; says = q; is = rw (p, q) }

  -- what holds of nothing, and of one line more, holds of all lines that are read without fault
  module _ (P : List (List ℕ) → L → X → Type 0)
      (on : (ls : List (List ℕ)) (k : L) (v : X) (l : List ℕ) → P ls k v → g.last k ≡ false
      → Told (λ x. P (ls ++ (l ∷ [])) x.kind x.value) (g.says k v l)) where
    from : (ls before : List (List ℕ)) (k : L) (v : X) (k' : L) (v' : X) → P before k v
        → foldl (step g) (State.at k v) ls ≡ State.at k' v' → P (before ++ ls) k' v'
    from [] before k v k' v' p e =
        let same : k ≡ k' = cc in
        let too : v ≡ v' = cc in
        rw (append-nil before, ← same, ← too) p
    from (l ∷ ls) before k v k' v' p e =
        let n = said k v l ls k' v' e in
        rw (← append_assoc before (l ∷ []) ls)
        (from ls (before ++ (l ∷ [])) n.next.kind n.next.value k' v'
        ((on before k v l p n.left).told n.next n.says)
        (ap (λ (s : State F L X). foldl (step g) s ls) n.is ∙ e))

    pub each_line : P [] g.first g.none → (ls : List (List ℕ)) (k : L) (v : X) → Reads g ls k v → P ls k v
    each_line none ls k v r = from ls [] g.first g.none k v none r.leaves

  -- ---- a text that is read without fault

  pub record Was (t : List ℕ) (q : X) : Type 0 where
    pub lines : List (List ℕ)
    pub kind : L
    pub reads : Reads g lines kind q
    pub last : g.last kind ≡ true
    pub text : bytes lines ≡ t
    pub are : lines ≡ pieces line_feed t

  record Ends (s : State F L X) (held : ℕ) (q : X) : Type 0 where
    kind : L
    last : g.last kind ≡ true
    is : s ≡ State.at kind q
    none : held ≡ 0

  ends : (s : State F L X) (held : ℕ) (q : X) → ended g s held ≡ Answer.done q → Ends s held q
  unfolding ended
  ends (State.bad f n) held q e = refused-done e
  ends (State.at k v) held q e = go (eqb held 0 && g.last k) refl e
    where
      go : (t : Bool) → (eqb held 0 && g.last k) ≡ t
          → cond t (Answer.done v) (Answer.refused g.odd (g.number k v)) ≡ Answer.done q
          → Ends (State.at k v) held q
      go false p f = refused-done f
      go true p f =
          let w = both (eqb held 0) (g.last k) p in
          let same : v ≡ q = cc in
          record { kind = k; last = w.1; is = ap (State.at k) same; none = eqb-true held 0 w.0 }

  unless-long : (b : Bool) (a : Answer F X) (q : X) → cond b (Answer.refused g.long 0) a ≡ Answer.done q
      → a ≡ Answer.done q
  unless-long true a q e = refused-done e
  unless-long false a q e = e

  pub was : (t : List ℕ) (q : X) → read g t ≡ Answer.done q → Was t q
  unfolding read closed more opened
  was t q e =
      let fold = cut-fold (step g) line_feed (begin g) t in
      let end = ends (foldl (step g) (begin g) (pieces line_feed t)) (length (rest line_feed t)) q
      (ap (λ (c : Cut (State F L X)). ended g c.st (length c.held)) (sym fold)
      ∙ unless-long (ltb g.most (0 + length t)) _ q e) in
      record {
        lines = pieces line_feed t;
        kind = end.kind;
        reads = record { leaves = end.is };
        last = end.last;
        text = sym (append-nil (bytes (pieces line_feed t)))
            ∙ ap (λ (l : List ℕ). bytes (pieces line_feed t) ++ l) (sym (no_bytes (rest line_feed t) end.none))
            ∙ cut-whole line_feed t;
        are = refl;
      }
