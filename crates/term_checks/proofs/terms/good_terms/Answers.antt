use mathlib.Core.Bool.{Bool, true, false, ◌&&◌}
use mathlib.Core.Path.{◌≡◌, refl, sym, ◌∙◌}
use Prim.Native.Nat.{ℕ}
use native.Mathlib.Omega.{arith}
use borrow.Author.Tests.{le-leb, lt-leb}
use Rattle.lists.specs.Loops.{all_b}
use Rattle.lists.proofs.All.{all_more, all-stop, all_done}
use Rattle.jobs.specs.declared.Equation.{Equation}
use Rattle.jobs.specs.Places.{term_at}
use Rattle.term_checks.specs.Terms.{good_term, in_order, good_place, good_terms}
use Rattle.term_checks.proofs.TermLaws.{order-first, order-at}
use Rattle.term_checks.proofs.terms.good_terms.Goals as goal
use Rattle.term_checks.proofs.terms.good_terms.Goals.{else-k-gt0-via-then-k-gt0+else-not-stands_before, else-k-gt0-via-else-k-gt0}

place : (q : Equation) (n k : ℕ) (a b : Bool)
    → good_term (term_at q k) n ≡ a → in_order q n k ≡ b → good_place q n k ≡ a && b
unfolding good_place
place q n k a b p o = rw (p, o)

bad-term : (q : Equation) (n k : ℕ) → good_term (term_at q k) n ≡ false → good_place q n k ≡ false
unfolding good_place
bad-term q n k p = rw p

pub returns-then-q-gt-TERMS : goal.returns-then-q-gt-TERMS
unfolding good_terms
returns-then-q-gt-TERMS c = rw (lt-leb _ _ c.if-q-gt-TERMS.true)

pub loop-k-init : goal.loop-k-init
unfolding all_b
loop-k-init c = refl

pub returns-then-not-good_term : goal.returns-then-not-good_term
unfolding good_terms
returns-then-not-good_term c =
    let k = c.loop-k.k in
    rw (le-leb _ _ c.if-q-gt-TERMS.false)
    (sym (all-stop _ _ k c.loop-k-test.true
    (bad-term _ _ k (sym c.good_term.ensures ∙ c.if-not-good_term.true))))

pub returns-then-not-stands_before : goal.returns-then-not-stands_before
unfolding good_terms
returns-then-not-stands_before c =
    let l = c.loop-k in
    rw (le-leb _ _ c.if-q-gt-TERMS.false)
    (sym (all-stop _ _ l.k c.loop-k-test.true
    (place _ _ l.k true false
    (sym c.good_term.ensures
    ∙ c.if-not-good_term.false)
    (order-at _ _ l.k c.if-k-gt0.true ∙ sym c.stands_before.ensures
    ∙ c.if-not-stands_before.true))))

pub loop-k-preserved : goal.loop-k-preserved
loop-k-preserved c =
    let l = c.loop-k in
    all_more _ l.k l.invariant
    (place _ _ l.k true true
    (sym c.good_term.ensures ∙ c.if-not-good_term.false)
    (elim c.else-k-gt0.branch [
      | else-k-gt0-via-then-k-gt0+else-not-stands_before w ↦
          order-at _ _ l.k w.if-k-gt0.true ∙ sym w.stands_before.ensures ∙ w.if-not-stands_before.false
      | else-k-gt0-via-else-k-gt0 w ↦ order-first _ _ l.k w.if-k-gt0.false
    ]))

pub returns : goal.returns
unfolding good_terms
returns c =
    rw (le-leb _ _ c.if-q-gt-TERMS.false)
    (sym (all_done _ {i = c.loop-k.k} (omega arith) c.loop-k-test.false c.loop-k.invariant))
