use Prim.Native.Nat.{◌<◌}
use mathlib.Core.List.{[]}
use mathlib.Core.Path.{refl, sym, ◌∙◌}
use native.Mathlib.Omega.{arith}
use Rattle.std.proofs.Common.{length-take}
use Rattle.std.proofs.lemmas.List.{get_or-take}
use Rattle.lists.specs.Loops.{all_b}
use Rattle.lists.proofs.All.{all_more, all-stop, all_done}
use Rattle.jobs.specs.declared.Row.{Row}
use Rattle.checks.specs.Checks.{good_matrix}
use Rattle.checks.proofs.job.good_matrix.Goals as goal

no_row : Row
no_row = record { at = [] }

pub loop-row-init : goal.loop-row-init
unfolding all_b
loop-row-init c = refl

pub returns-then-not-all_within : goal.returns-then-not-all_within
unfolding good_matrix no_row
returns-then-not-all_within c =
    let n = c.args.n in
    let i = c.loop-row.row-index in
    let live : i < n = omega (arith, length-take n c.args.rows) in
    sym (all-stop _ _ _ live
    (rw (get_or-take n c.args.rows i no_row live) at (sym c.all_within.ensures ∙ c.if-not-all_within.true)))

pub loop-row-preserved : goal.loop-row-preserved
unfolding no_row
loop-row-preserved c =
    let n = c.args.n in
    let i = c.loop-row.row-index in
    let live : i < n = omega (arith, length-take n c.args.rows) in
    all_more _ i c.loop-row.invariant
    (rw (get_or-take n c.args.rows i no_row live) at (sym c.all_within.ensures ∙ c.if-not-all_within.false))

pub returns : goal.returns
unfolding good_matrix
returns c =
    let some = length-take c.args.n c.args.rows in
    sym (all_done _ {i = c.loop-row.row-index} (omega arith) (omega arith) c.loop-row.invariant)
