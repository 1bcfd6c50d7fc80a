-- `job_put::rows::entries` meets its contract.
use borrow.Author.Rules.{rules}
use Prim.Native.Nat.{◌/◌, ◌%◌}
use native.Mathlib.Omega.{arith}
use lib.ListN.{get_or}
use lib.IntN.{pos}
use mir.Syntax.{w64}
use mir.Facts.{to_z-of_z}
use Rattle.lists.proofs.Tab.{tab-none, tab-more}
use Rattle.text.specs.Lists.{places_max}
use Rattle.jobs.specs.Places.{row_at}
use Rattle.lines.specs.Texts.{entry_of}
use Rattle.lines.proofs.Squares.{square-fits}
use Rattle.job_put.proofs.rows.entries.Goals as goal

pub loop-k-init : goal.loop-k-init
loop-k-init c = tab-none (pos 0) places_max _

pub loop-k-preserved : goal.loop-k-preserved
unfolding entry_of
loop-k-preserved c =
    let n = c.args.n in
    let l = c.loop-k in
    let v = get_or (row_at c.args.rows (l.k / n)) (l.k % n) (pos 0) in
    tab-more (pos 0) places_max _ _
    (omega (arith, square-fits n c.requires.1, c.loop-k-test.true))
    l.invariant
    (to_z-of_z {w = w64} {z = v} (search rules))
