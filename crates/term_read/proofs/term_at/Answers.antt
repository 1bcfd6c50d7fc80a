use Prim.Native.Nat.{ℕ, ◌+◌}
use native.Mathlib.Omega.{arith}
use mathlib.Core.Path.{sym, ap, ◌∙◌}
use mathlib.Core.Bool.{true≢false}
use mir.Syntax.{w64}
use mir.Val.{SFits}
use mir.Facts.{to_z-of_z}
use borrow.Author.Rules.{rules}
use Rattle.term_text.specs.Terms.{colon}
use Rattle.digits.specs.Digits.{all_digits}
use Rattle.reading.specs.Places.{part}
use Rattle.scan.proofs.Tests.{at-yes, at-no}
use Rattle.term_read.proofs.Single.{exps-yes, exps-no, no-term, one-term}
use Rattle.term_read.proofs.term_at.Goals as goal

pub returns-in_err-number : goal.returns-in_err-number
returns-in_err-number c =
    rw c.from_residual.ensures
    (no-term _ _ _ _ _ c.in_err-number.ensures c.requires.1 (λ e q h z w d. absurd (omega (arith, h))))

pub returns-then-not-is_at : goal.returns-then-not-is_at
returns-then-not-is_at c =
    let no = at-no c.args.s.now c.in_ok-number.number.next colon (sym c.is_at.ensures ∙ c.if-not-is_at.true) in
    no-term _ _ _ _ _ c.in_ok-number.ensures.1 c.requires.1 (λ e q h z w d. no (omega arith) w)

pub returns-then-s-c : goal.returns-then-s-c
returns-then-s-c c =
    no-term _ _ _ _ _ c.in_ok-number.ensures.1 c.requires.1 (λ e q h z w d. omega (arith, c.if-s-c.true))

pub returns-in_err-exps : goal.returns-in_err-exps
returns-in_err-exps c =
    let a = c.args in
    let no = exps-no _ _ c.in_err-exps.ensures in
    rw c.from_residual-in_err-exps.ensures
    (no-term _ _ _ _ _ c.in_ok-number.ensures.1 c.requires.1
    (λ e q h z w d. true≢false
    (sym (ap (λ (y : ℕ). all_digits (part a.s.now (c.in_ok-number.number.next + 1) y)) z ∙ d) ∙ no)))

pub returns : goal.returns
returns c =
    let n = c.in_ok-number in
    let fits : SFits w64 n.number.value = search rules in
    let yes = exps-yes _ _ _ c.in_ok-exps.ensures in
    let at = at-yes c.args.s.now n.number.next colon (sym c.is_at.ensures ∙ c.if-not-is_at.false) in (
      omega (arith, n.ensures.0),
      rw (to_z-of_z fits, yes.1)
          (one-term _ _ _ _ _ n.ensures.1 n.ensures.0 (omega arith) at.1 yes.0),
    )
