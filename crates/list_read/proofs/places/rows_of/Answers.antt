use native.Mathlib.Omega.{arith}
use mathlib.Core.Path.{ap}
use mathlib.Core.List.{List}
use lib.IntN.{ℤ}
use Rattle.sizes.specs.Sizes.{n_max}
use Rattle.lists.proofs.Tab.{tab-none, tab-more, tab-done}
use Rattle.jobs.specs.Zero.{zero_row}
use Rattle.lines.specs.Places.{rows_of}
use Rattle.lines.proofs.Squares.{row_fits}
use Rattle.list_read.proofs.places.rows_of.Goals as goal

pub loop-i-init : goal.loop-i-init
loop-i-init c = rw c.zero_row-rows.ensures (omega arith, tab-none zero_row n_max _)

pub overflow_mul-i : goal.overflow_mul-i
overflow_mul-i c = omega (arith, row_fits c.loop-i.i c.args.n c.loop-i-test.true c.requires)

pub cells_of-requires : goal.cells_of-requires
cells_of-requires c = (c.requires, row_fits c.loop-i.i c.args.n c.loop-i-test.true c.requires)

pub loop-i-preserved : goal.loop-i-preserved
loop-i-preserved c = (
  omega arith,
  tab-more zero_row n_max _ _ (omega arith) c.loop-i.invariant.1
      (ap (λ (xs : List ℤ). record { at = xs }) c.cells_of.ensures),
)

pub returns : goal.returns
unfolding rows_of
returns c = tab-done zero_row n_max _ c.loop-i.invariant.0 c.loop-i-test.false c.loop-i.invariant.1
