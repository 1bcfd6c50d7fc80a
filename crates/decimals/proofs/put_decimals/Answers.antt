use Prim.Native.Nat.{ℕ, ◌+◌, ◌-◌, ◌*◌, ◌/◌}
use native.Mathlib.Omega.{arith}
use mathlib.Core.Path.{◌≡◌, refl, sym, ap, ◌∙◌}
use mathlib.Core.List.{List, [], ◌∷◌, ◌++◌, append_assoc, append-nil}
use Rattle.digits.specs.Bytes.{digit0}
use Rattle.writing.specs.Wrote.{Wrote}
use Rattle.writing.proofs.Wrote.{wrote-append, wrote_none}
use Rattle.decimals.specs.Units.{unit, decimals_max, decimals}
use Rattle.decimals.proofs.Decimals.{none_left, no_more, one_more}
use Rattle.decimals.proofs.put_decimals.Invariants.{Inv}
use Rattle.decimals.proofs.put_decimals.Goals as goal

-- where nothing is to come, all is written
all-written : {old new : List ℕ} {at r p left k : ℕ} → decimals (decimals_max - k) left ≡ []
    → Inv old new at r p left k → Wrote old new at p (decimals decimals_max r)
all-written n v =
    let all = ap (λ (x : List ℕ). v.done ++ x) n ∙ append-nil v.done in
    rw (sym all ∙ v.whole) at v.wrote

pub loop-k-init : goal.loop-k-init
loop-k-init c = record {
  few = omega arith;
  small = omega arith;
  room = omega arith;
  done = [];
  wrote = wrote_none _ _;
  whole = refl;
}

pub returns-then-left-eq0 : goal.returns-then-left-eq0
returns-then-left-eq0 c =
    let l = c.loop-k in
    all-written (none_left (decimals_max - l._k) l.left c.if-left-eq0.true) l.invariant

pub loop-k-preserved : goal.loop-k-preserved
loop-k-preserved c =
    let l = c.loop-k in
    let test = c.loop-k-test.true in
    let byte = c.put_byte-p.ensures in
    let next = one_more (decimals_max - l._k) l.left (omega arith) c.if-left-eq0.false in
    let e : decimals_max - l._k - 1 ≡ decimals_max - (l._k + 1) = omega arith in
    let b : ℕ = digit0 + l.left * 10 / unit in
    record {
      few = omega arith;
      small = omega arith;
      room = omega (arith, byte.next, l.invariant.room);
      done = l.invariant.done ++ (b ∷ []);
      wrote = wrote-append l.invariant.wrote byte;
      whole = append_assoc l.invariant.done (b ∷ []) _
          ∙ ap (λ (x : List ℕ). l.invariant.done ++ x) (sym (rw e at next))
          ∙ l.invariant.whole;
    }

pub returns : goal.returns
returns c =
    let l = c.loop-k in
    let z : decimals_max - l._k ≡ 0 = omega (arith, c.loop-k-test.false) in
    all-written (no_more (decimals_max - l._k) l.left z) l.invariant
