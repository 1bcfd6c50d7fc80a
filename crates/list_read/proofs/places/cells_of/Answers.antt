use borrow.Author.Rules.{rules}
use Prim.Native.Nat.{◌+◌}
use native.Mathlib.Omega.{arith}
use lib.ListN.{get_or}
use lib.IntN.{pos}
use mir.Syntax.{w64}
use mir.Facts.{to_z-of_z}
use Rattle.sizes.specs.Sizes.{n_max}
use Rattle.lists.proofs.Tab.{tab-none, tab-more, tab-done}
use Rattle.lines.specs.Places.{cells}
use Rattle.list_read.proofs.places.cells_of.Goals as goal

pub loop-j-init : goal.loop-j-init
loop-j-init c = (omega arith, tab-none (pos 0) n_max _)

pub loop-j-preserved : goal.loop-j-preserved
loop-j-preserved c =
    let args = c.args in
    let l = c.loop-j in (
      omega arith,
      tab-more (pos 0) n_max _ _ (omega arith) l.invariant.1
          (to_z-of_z {w = w64} {z = get_or args.vals.now (args.from + l.j) (pos 0)} (search rules)),
    )

pub returns : goal.returns
unfolding cells
returns c = tab-done (pos 0) n_max _ c.loop-j.invariant.0 c.loop-j-test.false c.loop-j.invariant.1
