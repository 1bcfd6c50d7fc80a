-- A value's text is read as its checks find: values and text share one order.
use Prim.Native.Nat.{◌+◌, ◌≤◌}
use native.Mathlib.Omega.{arith}
use mathlib.Core.Path.{◌≡◌, refl, sym, ap, ◌∙◌}
use mathlib.Core.List.{List, [], ◌∷◌, ◌++◌, foldl}
use mathlib.Core.Bool.{true, false}
use mathlib.Core.Logic.{◌⊎◌, inl, inr, ⊎_elim}
use lib.ListN.{length}
use borrow.Author.Tests.{le-ltb}
use Rattle.digits.specs.Bytes.{line_feed}
use Rattle.text.proofs.Pieces.{Above, AllAbove, fed-each}
use Rattle.reading.specs.Results.{after}
use Rattle.reading.specs.Lines.{Form, State, Answer, heard, step, begin, opened, more, ended, closed, read, bytes}
use Rattle.reading.specs.Shows.{Shows, lines_of, shown, live, Passed, unless_found, findings, judged}
use Rattle.reading.proofs.Decided.{stays-bad}
use Rattle.reading.proofs.Reading.{refused-done}
use Rattle.reading.proofs.Told.{fault-got}
use Rattle.std.specs.Prelude.{Ok, Err, Result}

-- lines without fault, and more of them; lines without a line feed
module _ {F L X : Type 0} (w : Shows F L X) (v : X) where
  pub passed-join : (a b : List L) → Passed w a v → Passed w b v → Passed w (a ++ b) v
  passed-join [] b p q = q
  passed-join (k ∷ a) b p q = (p.0, passed-join a b p.1 q)

  -- the line after those before it
  pub passed-next : (k : L) → Passed w (w.prior k v) v → w.check k v ≡ Ok tt
      → Passed w (w.prior k v ++ (k ∷ [])) v
  passed-next k p e = passed-join (w.prior k v) (k ∷ []) p (e, tt)

  pub passed-front : (a b : List L) → Passed w (a ++ b) v → Passed w a v
  passed-front [] b p = tt
  passed-front (k ∷ a) b p = (p.0, passed-front a b p.1)

  pub passed-rest : (a b : List L) → Passed w (a ++ b) v → Passed w b v
  passed-rest [] b p = p
  passed-rest (k ∷ a) b p = passed-rest a b p.1

  pub all_above : ((k : L) → Above line_feed (w.line k v)) → (ks : List L) → AllAbove line_feed (lines_of w v ks)
  unfolding AllAbove
  all_above h [] = tt
  all_above h (k ∷ ks) = (h k, all_above h ks)

module _ {F L X : Type 0} (g : Form F L X) (w : Shows F L X) (q : X) where
  -- these kinds follow one another, from k on to the end
  pub data Tied : L → List L → Type 0 where
    none : Tied w.end []
    one : {k : L} {ks : List L} → g.last k ≡ false → Tied (w.next k q) ks → Tied k (k ∷ ks)

  pub passed-done : (ks : List L) → Passed w ks q → findings g w q ks ≡ Answer.done (live w q)
  unfolding findings unless_found
  passed-done [] p = refl
  passed-done (k ∷ ks) p = rw p.0 (passed-done ks p.1)

  pub done-passed : (ks : List L) (v : X) → findings g w q ks ≡ Answer.done v → Passed w ks q
  unfolding findings unless_found
  done-passed [] v e = tt
  done-passed (k ∷ ks) v e = go (w.check k q) refl e (λ f. done-passed ks v f)
    where
      go : (c : Result (Unit {0}) F) → w.check k q ≡ c
          → unless_found c (g.number k (w.upto k q)) (findings g w q ks) ≡ Answer.done v
          → (findings g w q ks ≡ Answer.done v → Passed w ks q) → (w.check k q ≡ Ok tt) × Passed w ks q
      go (Ok u) p f on = (p, on f)
      go (Err x) p f on = refused-done f

  -- Has tells the kinds that are reached, Spelt those whose values can be spelled
  module _ (Has Spelt : L → Type 0) where
    -- what the line that is shown for a kind is to satisfy
    pub record Law (k : L) : Type 0 where
      pub says : Spelt k
          → g.says k (w.upto k q) (w.line k q)
          ≡ after (w.check k q) (λ u. record { kind = w.next k q; value = w.upto (w.next k q) q })
      pub spelt : w.check k q ≡ Ok tt → Spelt k
      pub has : w.check k q ≡ Ok tt → Has (w.next k q)

    -- a line that is shown, and passes, is read
    pub line_read : {k : L} → Law k → g.last k ≡ false → w.check k q ≡ Ok tt
        → step g (State.at k (w.upto k q)) (w.line k q) ≡ State.at (w.next k q) (w.upto (w.next k q) q)
    unfolding step heard after
    line_read a left e = rw (left, a.says (a.spelt e), e)

    -- no check finds a fault, or all values can be spelled
    abbrev pub Ready : List L → Type 0
    Ready ks = Passed w ks q ⊎ ((k : L) → Has k → Spelt k)

    module _ (last : g.last w.end ≡ true) (law : (k : L) → Has k → g.last k ≡ false → Law k) where
      walked : {k : L} {ks : List L} → Tied k ks → Has k → Ready ks
          → ended g (foldl (step g) (State.at k (w.upto k q)) (lines_of w q ks)) 0 ≡ findings g w q ks
      unfolding findings unless_found ended step heard after
      walked Tied.none h r = rw last
      walked (Tied.one {k} {ks} left tied) h r = go (w.check k q) refl r (λ x y. walked tied x y)
        where
          go : (c : Result (Unit {0}) F) → w.check k q ≡ c → Ready (k ∷ ks)
              → (Has (w.next k q) → Ready ks
              → ended g (foldl (step g) (State.at (w.next k q) (w.upto (w.next k q) q)) (lines_of w q ks)) 0
              ≡ findings g w q ks)
              → ended g (foldl (step g) (step g (State.at k (w.upto k q)) (w.line k q)) (lines_of w q ks)) 0
              ≡ unless_found c (g.number k (w.upto k q)) (findings g w q ks)
          go (Ok u) e r on =
              let a = law k h left in
              rw (left, a.says (a.spelt e), e) (on (a.has e) (⊎_elim (λ p. inl p.1) inr r))
          go (Err f) e (inl p) on = fault-got (sym e ∙ p.0)
          go (Err f) e (inr all) on =
              rw (left, (law k h left).says (all k h), e, stays-bad g (lines_of w q ks) f (g.number k (w.upto k q)))

      pub read-shown : w.upto g.first q ≡ g.none → Has g.first → Tied g.first (w.prior w.end q)
          → ((k : L) → Above line_feed (w.line k q)) → Ready (w.prior w.end q)
          → length (bytes (shown w q)) ≤ g.most
          → read g (bytes (shown w q)) ≡ judged g w q
      unfolding read closed more opened
      read-shown b h tied plain r m =
          rw (
            le-ltb g.most (0 + length (bytes (shown w q))) (omega arith),
            fed-each (step g) line_feed (shown w q) (begin g) (all_above w q plain (w.prior w.end q)),
          )
          (ap (λ (v : X). ended g (foldl (step g) (State.at g.first v) (shown w q)) 0) (sym b) ∙ walked tied h r)
