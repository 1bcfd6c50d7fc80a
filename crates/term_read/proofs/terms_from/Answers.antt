use mathlib.Core.Path.{refl, sym, ◌∙◌}
use Rattle.term_read.proofs.Several.{begins, empty-line, none-there, other-mark, again, all_read}
use Rattle.term_read.proofs.terms_from.Goals as goal

pub returns-then-is_at : goal.returns-then-is_at
returns-then-is_at c = rw c.zero_equation.ensures (empty-line _ _ _ (sym c.is_at.ensures ∙ c.if-is_at.true))

pub loop-term-init : goal.loop-term-init
loop-term-init c = (
  rw c.zero_equation-q.ensures
      (begins _ _ _ c.requires.1 (sym c.is_at.ensures ∙ c.if-is_at.false)),
  c.bounded-few.ensures,
)

pub returns-in_default : goal.returns-in_default
returns-in_default c =
    let i = c.loop-term.invariant in
    none-there i.0 (rw i.1 at c.in_default.ensures) refl

pub returns-then-not-is_mark : goal.returns-then-not-is_mark
returns-then-not-is_mark c =
    let i = c.loop-term.invariant in
    other-mark i.0 (rw i.1 at c.in-Some.ensures.1) (sym c.is_mark.ensures ∙ c.if-not-is_mark.true)

pub returns-then-is_at-2 : goal.returns-then-is_at-2
returns-then-is_at-2 c =
    let i = c.loop-term.invariant in
    let t = c.in-Some.ensures in
    rw c.is_far-far.ensures
    (all_read i.0 (rw i.1 at t.1) t.0 c.put_term.ensures (sym c.is_at-in-loop-term.ensures ∙ c.if-is_at-2.true))

pub loop-term-preserved : goal.loop-term-preserved
loop-term-preserved c =
    let i = c.loop-term.invariant in
    let t = c.in-Some.ensures in
    rw c.is_far-far.ensures (
      again i.0 (rw i.1 at t.1) t.0 c.put_term.ensures (sym c.is_mark.ensures ∙ c.if-not-is_mark.false)
          (sym c.is_at-in-loop-term.ensures ∙ c.if-is_at-2.false),
      i.1,
    )
