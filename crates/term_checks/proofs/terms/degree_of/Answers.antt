use Prim.Native.Nat.{◌<◌}
use mathlib.Core.Path.{ap, ◌∙◌}
use native.Mathlib.Omega.{arith}
use lib.ListN.{get_or, take}
use mir.Val.{Fits}
use mir.Syntax.{w8}
use borrow.Author.Rules.{rules}
use Rattle.std.proofs.Common.{length-take, ◌+◌}
use Rattle.std.proofs.lemmas.List.{get_or-take}
use Rattle.lists.proofs.Carry.{carry-none, carry-more, carry-done}
use Rattle.term_checks.specs.Terms.{degree}
use Rattle.term_checks.proofs.terms.degree_of.Goals as goal

pub loop-e-init : goal.loop-e-init
loop-e-init c = (omega arith, carry-none _ _)

pub overflow_add-sum : goal.overflow_add-sum
overflow_add-sum c =
    let b : Fits w8 (get_or (take c.args.n c.args.t.exps) c.loop-e.e-index 0) = search rules in
    omega (arith, length-take c.args.n c.args.t.exps)

pub loop-e-preserved : goal.loop-e-preserved
loop-e-preserved c =
    let live : c.loop-e.e-index < c.args.n = omega (arith, length-take c.args.n c.args.t.exps) in
    let b : Fits w8 (get_or (take c.args.n c.args.t.exps) c.loop-e.e-index 0) = search rules in (
      omega arith,
      ap (λ e. c.loop-e.sum + e) (c.from-sum.ensures ∙ get_or-take c.args.n c.args.t.exps c.loop-e.e-index 0 live)
          ∙ carry-more _ _ c.loop-e.e-index c.loop-e.invariant.1,
    )

pub returns : goal.returns
unfolding degree
returns c =
    let some = length-take c.args.n c.args.t.exps in
    carry-done _ _ {i = c.loop-e.e-index} (omega arith) (omega arith) c.loop-e.invariant.1
