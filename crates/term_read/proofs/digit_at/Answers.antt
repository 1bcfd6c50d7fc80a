use native.Mathlib.Omega.{arith}
use mathlib.Core.Path.{sym, ◌∙◌}
use mathlib.Core.Bool.{true≢false}
use Rattle.term_read.proofs.Single.{digit_low}
use Rattle.term_read.proofs.Digits.{other_key, no_digit, one-digit}
use Rattle.term_read.proofs.digit_at.Goals as goal

pub returns-then-not-key_at : goal.returns-then-not-key_at
returns-then-not-key_at c = other_key _ _ _ c.requires.0 (sym c.key_at.ensures ∙ c.if-not-key_at.true)

pub returns-in_err-b : goal.returns-in_err-b
returns-in_err-b c =
    let a = c.args in
    let p = c.requires in
    let l = c.in_err-b.ensures.lookup in
    rw c.from_residual.ensures
    (no_digit a.s.now a.key.now _ p.0 p.1 (sym c.key_at.ensures ∙ c.if-not-key_at.false)
    (λ h. absurd (omega (arith, h, l))))

pub returns-then-not-is_digit : goal.returns-then-not-is_digit
returns-then-not-is_digit c =
    let a = c.args in
    let p = c.requires in
    let v = c.in_ok-b.ensures.lookup.4 (omega arith) 0 in
    no_digit a.s.now a.key.now _ p.0 p.1 (sym c.key_at.ensures ∙ c.if-not-key_at.false)
    (λ h d. absurd (true≢false (sym d ∙ rw v at (sym c.is_digit.ensures ∙ c.if-not-is_digit.true))))

pub returns-then-not-is_at : goal.returns-then-not-is_at
returns-then-not-is_at c =
    let a = c.args in
    let p = c.requires in
    no_digit a.s.now a.key.now _ p.0 p.1 (sym c.key_at.ensures ∙ c.if-not-key_at.false)
    (λ h d. sym c.is_at.ensures ∙ c.if-not-is_at.true)

pub overflow_sub-b : goal.overflow_sub-b
overflow_sub-b c = digit_low _ (sym c.is_digit.ensures ∙ c.if-not-is_digit.false)

pub returns : goal.returns
returns c =
    let a = c.args in
    let p = c.requires in
    let g = c.in_ok-b.ensures.lookup in
    let v = g.4 (omega arith) 0 in
    rw (c.from.ensures, v)
    (one-digit a.s.now a.key.now _ p.0 p.1 (sym c.key_at.ensures ∙ c.if-not-key_at.false) g.3.0
    (rw v at (sym c.is_digit.ensures ∙ c.if-not-is_digit.false)) (sym c.is_at.ensures ∙ c.if-not-is_at.false))
