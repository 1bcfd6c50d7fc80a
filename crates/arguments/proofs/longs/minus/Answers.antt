-- `arguments::longs::minus` meets its contract.
use Rattle.std.proofs.Common.{◌≡◌, sym, ap, ◌∙◌, rules, arith, Some, pos, neg_ℤ, ◌-ℤ◌, to_z, of_z, w64, FitsSigned}
use Rattle.std.proofs.lemmas.Int.{ints}
use mir.Facts.{to_z-of_z}
use Rattle.arguments.proofs.Signs.{minus-none, minus-zero, minus-some, not-below}
use Rattle.arguments.proofs.longs.minus.Goals as goal

pub returns-in_err-m : goal.returns-in_err-m
returns-in_err-m c = c.from_residual.ensures ∙ minus-none _ c.in_err-m.ensures

pub overflow_sub-result : goal.overflow_sub-result
overflow_sub-result c =
    let (k, e) = not-below _ _ c.in_ok-m.ensures in
    omega (arith, ints, e)

pub returns-then-m-eq0 : goal.returns-then-m-eq0
returns-then-m-eq0 c =
    let v = c.in_ok-m.m in
    let fits : FitsSigned w64 v = search rules in
    let zero : v ≡ pos 0 = sym (to_z-of_z fits) ∙ ap (to_z w64) c.if-m-eq0.true in
    minus-zero _ (ap Some (sym zero) ∙ c.in_ok-m.ensures)

pub returns : goal.returns
returns c =
    let v = c.in_ok-m.m in
    let (k, e) = not-below _ v c.in_ok-m.ensures in
    let same : Some (to_z w64 (of_z w64 (pos 0 -ℤ to_z w64 (of_z w64 v)))) ≡ Some (neg_ℤ v) = grind (arith, ints, e) in
    same ∙ minus-some _ v (λ z. c.if-m-eq0.false (ap (of_z w64) z)) c.in_ok-m.ensures
