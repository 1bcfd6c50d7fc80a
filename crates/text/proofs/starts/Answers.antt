use Prim.Native.Nat.{ℕ, ◌+◌, ◌≤◌, ◌<◌}
use native.Mathlib.Omega.{arith}
use native.Mathlib.Numerals.{add-one}
use mathlib.Core.Path.{◌≡◌, refl, sym, ◌∙◌}
use mathlib.Core.List.{List}
use mathlib.Core.Bool.{Bool, true, false}
use lib.ListN.{length, drop, get_or, drop_of_length-le}
use lib.Seq.{drop-cons}
use borrow.Author.Tests.{eq-eqb, ne_eqb}
use Rattle.text.specs.Keys.{starts_with}
use Rattle.text.proofs.Keys.{starts-length}
use Rattle.text.proofs.starts.Goals as goal

short : (l key : List ℕ) → length l < length key → false ≡ starts_with key l
short l key h = go (starts_with key l) refl
  where
    go : (t : Bool) → starts_with key l ≡ t → false ≡ t
    go true e = absurd (omega (arith, starts-length key l e))
    go false e = refl

module _ (l key : List ℕ) (i : ℕ) (p : i < length key) (q : i < length l) where
  other : (get_or l i 0 ≡ get_or key i 0 → ⊥) → starts_with (drop i key) (drop i l) ≡ false
  unfolding starts_with
  other n = rw (drop-cons key i 0 p, drop-cons l i 0 q) (simp (ne_eqb _ _ n))

  more : get_or l i 0 ≡ get_or key i 0 → starts_with (drop i key) (drop i l)
      ≡ starts_with (drop (i + 1) key) (drop (i + 1) l)
  unfolding starts_with
  more e = rw (drop-cons key i 0 p, drop-cons l i 0 q, add-one i) (simp (eq-eqb _ _ e))

none : (l key : List ℕ) (i : ℕ) → length key ≤ i → starts_with (drop i key) (drop i l) ≡ true
unfolding starts_with
none l key i h = rw (drop_of_length-le key h)

pub returns-then-l-key : goal.returns-then-l-key
returns-then-l-key c = short _ _ c.if-l-key.true

pub loop-i-init : goal.loop-i-init
loop-i-init c = record { room = c.if-l-key.false; same = refl }

pub returns-then-l-i : goal.returns-then-l-i
returns-then-l-i c =
    let inv = c.loop-i.invariant in
    let q : c.loop-i.i < length c.args.l.now = omega arith in
    sym (other _ _ _ c.loop-i-test.true q c.if-l-i.true) ∙ inv.same

pub loop-i-preserved : goal.loop-i-preserved
loop-i-preserved c =
    let inv = c.loop-i.invariant in
    record {
      room = inv.room;
      same = sym (more _ _ _ c.loop-i-test.true (omega arith) c.if-l-i.false) ∙ inv.same;
    }

pub returns : goal.returns
returns c = sym (none _ _ _ c.loop-i-test.false) ∙ c.loop-i.invariant.same
