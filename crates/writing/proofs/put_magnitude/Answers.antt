use Prim.Native.Nat.{ℕ, suc, ◌+◌, ◌-◌, ◌/◌, ◌%◌, ◌<◌}
use native.Mathlib.Omega.{arith}
use mathlib.Core.Path.{◌≡◌, refl, sym, ap, ◌∙◌}
use mathlib.Core.List.{List, [], ◌∷◌, append_assoc, append-nil}
use lib.ListN.{length, length-append}
use lib.Seq.{sets}
use Rattle.digits.specs.Bytes.{digit0}
use Rattle.digits.specs.Show.{show_magnitude}
use Rattle.digits.proofs.Show.{show-short, show-full, show-last}
use Rattle.writing.proofs.Wrote.{sets-before}
use Rattle.writing.proofs.put_magnitude.Invariants.{Inv}
use Rattle.writing.proofs.put_magnitude.Goals as goal

turn : {old new later text : List ℕ} {at end left p : ℕ} → Inv old new text at end left p → at < p
    → later ≡ sets new (p - 1) ((digit0 + left % 10) ∷ []) → Inv old later text at end (left / 10) (p - 1)
turn {old} {new} {later} {text} {at} {end} {left} {p} h l e =
    let j : ℕ = p - 1 - at in
    let d : ℕ = digit0 + left % 10 in
    let s : p - at ≡ suc j = omega arith in
    let n : suc (p - 1) ≡ p = omega arith in
    let more = show-last j left (rw s at h.full) in
    record {
      low = omega arith;
      high = omega (arith, h.high);
      full = omega (arith, simp length-append at (ap length more), rw s at h.full);
      done = d ∷ h.done;
      stands = rw n (e ∙ rw h.stands (sets-before old p (p - 1) h.done d (omega arith)));
      whole = sym (append_assoc (show_magnitude j (left / 10)) (d ∷ []) h.done) ∙ rw (← more, ← s) h.whole;
    }

pub overflow_add-end : goal.overflow_add-end
overflow_add-end c = let a = c.args in omega (arith, c.digits_of.ensures, show-short a.k a.m)

pub loop-p-init : goal.loop-p-init
loop-p-init c =
    let a = c.args in
    let e : a.at + c.digits_of.result - a.at ≡ length (show_magnitude a.k a.m) =
    omega (arith, c.digits_of.ensures) in
    let f = show-full a.k a.m in
    record {
      low = omega arith;
      high = omega arith;
      full = rw (e, f);
      done = [];
      stands = refl;
      whole = rw (e, append-nil) f;
    }

pub put_byte-requires : goal.put_byte-requires
put_byte-requires c =
    let l = c.loop-p in
    let short = show-short c.args.k c.args.m in
    omega (arith, l.invariant.high, c.digits_of.ensures, c.requires, c.loop-p-test.true)

pub loop-p-preserved : goal.loop-p-preserved
loop-p-preserved c =
    let l = c.loop-p in
    turn l.invariant c.loop-p-test.true c.put_byte.ensures.text
