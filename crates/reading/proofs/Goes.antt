-- A reader's way through the text, line by line where they stand.
use Prim.Native.Nat.{ℕ, ◌+◌, ◌-◌, ◌≤◌, ◌<◌}
use native.Mathlib.Omega.{arith}
use mathlib.Core.Path.{◌≡◌, refl, sym, ap, ◌∙◌}
use mathlib.Core.List.{List}
use mathlib.Core.Bool.{Bool, true, false, ◌&&◌}
use lib.ListN.{length, drop, length-drop}
use lib.Seq.{length-take-le}
use lib.Dec.{eqb}
use borrow.Author.Tests.{lt-ltb, le-ltb, eq-eqb, ne_eqb}
use Rattle.digits.specs.Bytes.{line_feed}
use Rattle.digits.proofs.Cases.{either}
use Rattle.text.specs.Cut.{fresh}
use Rattle.text.proofs.Cuts.{at_part, all-fed, held, piece}
use Rattle.reading.specs.Lines.{Next, Form, State, Answer, heard, step, begin, opened, more, ended, ended_cut}
use Rattle.reading.specs.Lines.{closed, read}
use Rattle.reading.specs.Places.{part, line_end, line_at, rest, Goes}
use Rattle.reading.proofs.Decided.{bad-ends}
use Rattle.reading.proofs.Ends.{line-end}
use Rattle.reading.proofs.Told.{fault-got}
use Rattle.std.specs.Prelude.{Ok, Err, Result}

pub and-false : (b : Bool) → b && false ≡ false
and-false true = refl
and-false false = refl

false-and : (b : Bool) → false && b ≡ false
false-and true = refl
false-and false = refl

module _ {F L X : Type 0} (g : Form F L X) (t : List ℕ) where
  pub goes-read : length t ≤ g.most → read g t ≡ rest g t (begin g) 0
  unfolding read closed more opened rest
  goes-read h = rw (le-ltb g.most (0 + length t) (omega arith))

  pub read-long : g.most < length t → read g t ≡ Answer.refused g.long 0
  unfolding read closed more opened
  read-long h = rw (lt-ltb g.most (0 + length t) (omega arith))

  pub rest-bad : (f : F) (n b : ℕ) → rest g t (State.bad f n) b ≡ Answer.refused f n
  unfolding rest
  rest-bad f n b = bad-ends g (drop b t) f n (fresh (State.bad f n)) refl

  -- ---- one line

  module _ (s : State F L X) (a : ℕ) (h : a ≤ length t) where
    -- a line that an LF ends
    line-fed : line_end t a < length t → rest g t s a ≡ rest g t (step g s (part t a (line_end t a))) (line_end t a + 1)
    unfolding rest
    line-fed q = ap (ended_cut g) (piece (step g) line_feed t s a (line_end t a) (line-end t a h) q)

    -- one that none ends
    line-held : length t ≤ line_end t a → rest g t s a ≡ ended g s (length t - a)
    unfolding rest
    line-held q =
        let p = line-end t a h in
        let e : line_end t a ≡ length t = omega (arith, p.inside) in
        let long : length (part t a (line_end t a)) ≡ length t - a =
        length-take-le (line_end t a - a) (drop a t) (omega (arith, length-drop a t)) ∙ ap (λ (n : ℕ). n - a) e in
        ap (ended_cut g) (held (step g) line_feed t s a (line_end t a) p)
        ∙ ap (ended_cut g) (all-fed (step g) line_feed t (at_part s t a (line_end t a)) (line_end t a) q)
        ∙ ap (ended g s) long

  -- the end of the text, by its two tests
  odd-end : (k : L) (v : X) (left : ℕ) → eqb left 0 && g.last k ≡ false
      → ended g (State.at k v) left ≡ Answer.refused g.odd (g.number k v)
  unfolding ended
  odd-end k v left e = rw e

  module _ (k : L) (v : X) (a : ℕ) (h : a ≤ length t) where
    -- what a line makes of the text from it on
    heard-at : Result (Next L X) F → Answer F X
    heard-at (Ok x) = rest g t (State.at x.kind x.value) (line_end t a + 1)
    heard-at (Err f) = Answer.refused f (g.number k v)

    heard-line : (r : Result (Next L X) F) → rest g t (heard (g.number k v) r) (line_end t a + 1) ≡ heard-at r
    unfolding heard heard-at
    heard-line (Ok x) = refl
    heard-line (Err f) = rest-bad f (g.number k v) (line_end t a + 1)

    rest-line : g.last k ≡ false → rest g t (State.at k v) a ≡ heard-at (line_at g.odd (g.says k v) t a)
    unfolding line_at step heard-at
    rest-line left =
        either (line_end t a) (length t)
        (λ q.
        rw (lt-ltb (line_end t a) (length t) q)
        (line-fed (State.at k v) a h q ∙ rw left (heard-line (g.says k v (part t a (line_end t a))))))
        (λ q.
        rw (le-ltb (line_end t a) (length t) q)
        (line-held (State.at k v) a h q ∙ odd-end k v (length t - a) (rw left (and-false (eqb (length t - a) 0)))))

    line-inside : {x : Next L X} → line_at g.odd (g.says k v) t a ≡ Ok x → line_end t a + 1 ≤ length t
    unfolding line_at
    line-inside e =
        either (line_end t a) (length t)
        (λ q. omega arith)
        (λ q. fault-got (rw (le-ltb (line_end t a) (length t) q) at e))

    -- a line that is read
    pub goes-line : g.last k ≡ false → (x : Next L X) → line_at g.odd (g.says k v) t a ≡ Ok x
        → Goes g t a k v (State.at x.kind x.value) (line_end t a + 1)
    unfolding heard-at
    goes-line left x e = record { inside = line-inside e; same = rest-line left ∙ ap heard-at e }

    -- a bad line: nothing after it plays a part
    pub goes-fault : g.last k ≡ false → (f : F) → line_at g.odd (g.says k v) t a ≡ Err f
        → (b : ℕ) → b ≤ length t → Goes g t a k v (State.bad f (g.number k v)) b
    unfolding heard-at
    goes-fault left f e b q =
        record { inside = q; same = rest-line left ∙ ap heard-at e ∙ sym (rest-bad f (g.number k v) b) }

    -- the end: "bytes after the last line are an extra line"
    pub end-done : g.last k ≡ true → a ≡ length t → rest g t (State.at k v) a ≡ Answer.done v
    unfolding ended
    end-done last q =
        let p = line-end t a h in
        line-held (State.at k v) a h (omega (arith, p.after)) ∙ rw (eq-eqb (length t - a) 0 (omega arith), last)

    pub end-extra : g.last k ≡ true → a < length t
        → rest g t (State.at k v) a ≡ Answer.refused g.odd (g.number k v)
    unfolding step
    end-extra last q =
        either (line_end t a) (length t)
        (λ p. line-fed (State.at k v) a h p ∙ rw last (rest-bad g.odd (g.number k v) (line_end t a + 1)))
        (λ p.
        line-held (State.at k v) a h p
        ∙ odd-end k v (length t - a) (rw (ne_eqb (length t - a) 0 (λ e. omega arith)) (false-and (g.last k))))

  -- a line that says the same as one of another kind, under the same number
  pub goes-as : (k k' : L) (v : X) (a : ℕ) → a ≤ length t → g.last k ≡ false → g.last k' ≡ false
      → g.number k v ≡ g.number k' v → line_at g.odd (g.says k v) t a ≡ line_at g.odd (g.says k' v) t a
      → Goes g t a k v (State.at k' v) a
  unfolding heard-at
  goes-as k k' v a h left left' number says = record {
    inside = h;
    same = rest-line k v a h left ∙ ap (heard-at k v a h) says ∙ go (line_at g.odd (g.says k' v) t a)
        ∙ sym (rest-line k' v a h left');
  }
    where
      go : (r : Result (Next L X) F) → heard-at k v a h r ≡ heard-at k' v a h r
      go (Ok x) = refl
      go (Err f) = ap (Answer.refused f) number

  -- no line
  pub goes_none : (a : ℕ) (k : L) (v : X) → a ≤ length t → Goes g t a k v (State.at k v) a
  goes_none a k v h = record { inside = h; same = refl }

  -- lines one after another
  pub goes_on : {a b c : ℕ} {k k' : L} {v v' : X} {s : State F L X} → Goes g t a k v (State.at k' v') b
      → Goes g t b k' v' s c
      → Goes g t a k v s c
  goes_on p q = record { inside = q.inside; same = p.same ∙ q.same }

  -- the first bad line decides
  pub goes-bad : {a b : ℕ} {k : L} {v : X} {f : F} {n : ℕ} → Goes g t a k v (State.bad f n) b
      → rest g t (State.at k v) a ≡ Answer.refused f n
  goes-bad {a} {b} {k} {v} {f} {n} p = p.same ∙ rest-bad f n b
