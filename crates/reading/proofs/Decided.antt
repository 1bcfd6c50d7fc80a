-- "lines are taken in order and the first bad line decides": where a text of lines is refused, and under which number.
use Prim.Native.Nat.{ℕ, ◌+◌, ◌≤◌}
use native.Mathlib.Omega.{arith}
use mathlib.Core.Path.{◌≡◌, refl, sym, ap, ◌∙◌}
use mathlib.Core.List.{List, [], ◌∷◌, ◌++◌, append_assoc, foldl, foldl-append}
use mathlib.Core.Bool.{Bool, true, false, cond}
use lib.ListN.{length}
use lib.Dec.{eqb}
use borrow.Author.Tests.{le-ltb}
use Rattle.digits.specs.Bytes.{line_feed}
use Rattle.text.specs.Cut.{Cut, fresh, feed, feeds}
use Rattle.reading.specs.Lines.{Next, Form, State, Answer, Part, heard, step, begin, more, ended, ended_cut}
use Rattle.reading.specs.Lines.{closed, Reads}
use Rattle.std.specs.Prelude.{Ok, Err, Result}

-- a good state is not a bad one
pub at-bad : {A F L X : Type 0} {f : F} {n : ℕ} {k : L} {v : X}
    → ◌≡◌ {A = State F L X} (State.at k v) (State.bad f n) → A
at-bad e = let z : ◌≡◌ {A = ℕ} 0 1 = cc in absurd (omega arith)

module _ {F L X : Type 0} (g : Form F L X) where
  pub stays-bad : (ls : List (List ℕ)) (f : F) (n : ℕ) → foldl (step g) (State.bad f n) ls ≡ State.bad f n
  unfolding step
  stays-bad [] f n = refl
  stays-bad (l ∷ ls) f n = stays-bad ls f n

  -- whatever bytes follow
  bad-fed : (bs : List ℕ) (f : F) (n : ℕ) (c : Cut (State F L X)) → c.st ≡ State.bad f n
      → (feeds (step g) line_feed c bs).st ≡ State.bad f n
  unfolding feeds feed
  bad-fed [] f n c e = e
  bad-fed (b ∷ bs) f n c e = bad-fed bs f n (feed (step g) line_feed c b) (go (eqb b line_feed))
    where
      go : (t : Bool)
          → (cond t (fresh (step g c.st c.held)) (record { st = c.st; held = c.held ++ (b ∷ []) })).st
          ≡ State.bad f n
      go true = ap (λ (s : State F L X). step g s c.held) e ∙ stays-bad (c.held ∷ []) f n
      go false = e

  pub bad-ends : (bs : List ℕ) (f : F) (n : ℕ) (c : Cut (State F L X)) → c.st ≡ State.bad f n
      → ended_cut g (feeds (step g) line_feed c bs) ≡ Answer.refused f n
  unfolding ended
  bad-ends bs f n c e = rw (bad-fed bs f n c e)

  pub decided : (p : Part F L X) (bs : List ℕ) (f : F) (n : ℕ) → p.cut.st ≡ State.bad f n
      → p.size + length bs ≤ g.most
      → closed g (more g p bs) ≡ Answer.refused f n
  unfolding closed more
  decided p bs f n e h = rw (le-ltb g.most (p.size + length bs) h) (bad-ends bs f n p.cut e)

  -- the first bad line, after lines that are read without fault
  pub record FirstBad (ls : List (List ℕ)) (f : F) (n : ℕ) : Type 0 where
    pub before : List (List ℕ)
    pub line : List ℕ
    pub after : List (List ℕ)
    pub kind : L
    pub value : X
    pub lines : before ++ (line ∷ after) ≡ ls
    pub reads : Reads g before kind value
    pub bad : step g (State.at kind value) line ≡ State.bad f n

  first-from : (ls before : List (List ℕ)) (k : L) (v : X) (f : F) (n : ℕ) → Reads g before k v
      → foldl (step g) (State.at k v) ls ≡ State.bad f n → FirstBad (before ++ ls) f n
  first-from [] before k v f n r e = at-bad e
  first-from (l ∷ ls) before k v f n r e =
      go (step g (State.at k v) l) refl e (λ k₁ v₁ r₁ e₁. first-from ls (before ++ (l ∷ [])) k₁ v₁ f n r₁ e₁)
    where
      go : (s : State F L X) → step g (State.at k v) l ≡ s → foldl (step g) s ls ≡ State.bad f n
          → ((k₁ : L) (v₁ : X) → Reads g (before ++ (l ∷ [])) k₁ v₁ → foldl (step g) (State.at k₁ v₁) ls ≡ State.bad f n
          → FirstBad ((before ++ (l ∷ [])) ++ ls) f n)
          → FirstBad (before ++ (l ∷ ls)) f n
      go (State.at k₁ v₁) p q on =
          let leaves =
          foldl-append (step g) (begin g) before (l ∷ []) ∙ ap (λ (s : State F L X). step g s l) r.leaves ∙ p in
          rw (append_assoc before (l ∷ []) ls) at (on k₁ v₁ (record { leaves = leaves }) q)
      go (State.bad f₁ n₁) p q on =
          record {
            before = before;
            line = l;
            after = ls;
            kind = k;
            value = v;
            lines = refl;
            reads = r;
            bad = p ∙ sym (stays-bad ls f₁ n₁) ∙ q;
          }

  pub first-bad : (ls : List (List ℕ)) (f : F) (n : ℕ) → foldl (step g) (begin g) ls ≡ State.bad f n → FirstBad ls f n
  first-bad ls f n e = first-from ls [] g.first g.none f n (record { leaves = refl }) e

  -- a bad line is named by its own number
  pub bad-number : (k : L) (v : X) (l : List ℕ) (f : F) (n : ℕ) → step g (State.at k v) l ≡ State.bad f n
      → g.number k v ≡ n
  unfolding step heard
  bad-number k v l f n e = go (g.last k) (g.says k v l) e
    where
      go : (t : Bool) (r : Result (Next L X) F)
          → cond t (State.bad g.odd (g.number k v)) (heard (g.number k v) r) ≡ State.bad f n → g.number k v ≡ n
      go true r q = cc
      go false (Err x) q = cc
      go false (Ok x) q = at-bad q
