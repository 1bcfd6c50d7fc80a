use Prim.Native.Nat.{ℕ, ◌<◌, ◌^◌, ◌-◌, ◌+◌}
use native.Mathlib.Omega.{arith}
use native.Mathlib.Nat.{pow-le-pow_right}
use mathlib.Core.Path.{◌≡◌, sym, ◌∙◌}
use mathlib.Core.List.{List}
use mathlib.Core.Bool.{true}
use lib.ListN.{length, get_or}
use lib.Dec.{lit<}
use Rattle.digits.specs.Digits.{is_digit}
use Rattle.digits.proofs.Cases.{either}
use Rattle.scan.proofs.Tests.{digit-yes, digit-no}
use Rattle.scan.proofs.Magnitudes.{Run, none-at, zero-at, run-start, run_more, run_ends}
use Rattle.scan.proofs.magnitude_at.Goals as goal

-- at most eight digits stay below 10 ^ 8
few : (a i v : ℕ) → a < i → i < a + 9 → v < 10 ^ (i - a) → v < 10 ^ 8
few a i v p q h = omega (arith, h, pow-le-pow_right {n = 10} (lit< tt) {i = i - a} {j = 8} (omega arith))

begins : (s : List ℕ) (a b : ℕ) → b ≡ get_or s a 0 → a < length s → is_digit b ≡ true → (b ≡ 48 → ⊥)
    → Run s a (b - 48) (a + 1)
begins s a b e h d n =
    let y = digit-yes b d in
    rw e (run-start s a h (either 48 b (λ q. omega (arith, e)) (λ q. absurd (n (omega (arith, y.0)))))
    (omega (arith, y.1, e)))

pub returns-then-not-is_digit : goal.returns-then-not-is_digit
returns-then-not-is_digit c =
    let g = c.in_ok-first.ensures.lookup in
    let e = g.4 (omega arith) 0 in
    let n = sym c.is_digit.ensures ∙ c.if-not-is_digit.true in
    none-at _ _
    (record { inside = c.requires; other = λ h p q. digit-no _ n (omega (arith, e, p)) (omega (arith, e, q)) })

pub returns-then-first-eq48 : goal.returns-then-first-eq48
returns-then-first-eq48 c =
    let g = c.in_ok-first.ensures.lookup in
    (omega arith, zero-at _ _ g.3.0 (sym (g.4 (omega arith) 0) ∙ c.if-first-eq48.true))

pub overflow_sub-first : goal.overflow_sub-first
overflow_sub-first c = (digit-yes _ (sym c.is_digit.ensures ∙ c.if-not-is_digit.false)).0

pub loop-i-init : goal.loop-i-init
loop-i-init c =
    let g = c.in_ok-first.ensures.lookup in
    rw c.from-m.ensures
    (begins _ _ _ (g.4 (omega arith) 0) g.3.0 (sym c.is_digit.ensures ∙ c.if-not-is_digit.false) c.if-first-eq48.false)

pub returns-then-not-is_digit-2 : goal.returns-then-not-is_digit-2
returns-then-not-is_digit-2 c =
    let n = sym c.is_digit-in-loop-i.ensures ∙ c.if-not-is_digit-2.true in
    (c.loop-i.invariant.begun, run_ends _ _ _ _ c.loop-i.invariant (λ p q r t. digit-no _ n r t))

pub overflow_mul-m : goal.overflow_mul-m
overflow_mul-m c =
    let l = c.loop-i in
    let h = few _ _ _ l.invariant.begun (omega arith) l.invariant.small in
    omega arith

pub overflow_sub-b : goal.overflow_sub-b
overflow_sub-b c = (digit-yes _ (sym c.is_digit-in-loop-i.ensures ∙ c.if-not-is_digit-2.false)).0

pub overflow_add-m : goal.overflow_add-m
overflow_add-m c =
    let l = c.loop-i in
    let d = digit-yes _ (sym c.is_digit-in-loop-i.ensures ∙ c.if-not-is_digit-2.false) in
    let h = few _ _ _ l.invariant.begun (omega arith) l.invariant.small in
    omega (arith, d.0, d.1, c.from.ensures)

pub loop-i-preserved : goal.loop-i-preserved
loop-i-preserved c =
    let d = digit-yes _ (sym c.is_digit-in-loop-i.ensures ∙ c.if-not-is_digit-2.false) in
    rw c.from.ensures (run_more _ _ _ _ c.loop-i.invariant (omega arith) (omega arith) d.0 d.1)

pub returns : goal.returns
returns c =
    let l = c.loop-i in
    let z : l.i ≡ c.args.from + c.min.result = omega (arith, l.auto.i-end) in
    rw (← z) (l.invariant.begun, run_ends _ _ _ _ l.invariant (λ p q r t. omega (arith, c.min.ensures)))
