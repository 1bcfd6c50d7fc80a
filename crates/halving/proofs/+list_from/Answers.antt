use native.Mathlib.Omega.{arith}
use Rattle.halving.proofs.Lists.{low-room}
use Rattle.halving.proofs.Turns.{returned-in, low-asked, high-asked, depth-left, room-behind}
use Rattle.halving.proofs.Turns.{listed-none, listed-unique, listed-open, listed-cut}
use Rattle.halving.proofs.+list_from.Goals as goal

-- ---- the low half
pub low_half-requires-clause-x_in : goal.low_half-requires-clause-x_in
low_half-requires-clause-x_in t c = returned-in c.requires c.ran-r.ensures

pub overflow_sub-depth : goal.overflow_sub-depth
overflow_sub-depth t c = omega (arith, depth-left c.requires c.ran-r.ensures c.in-Cut.is)

pub list_from-next-requires : goal.list_from-next-requires
list_from-next-requires t c =
    let deep = depth-left c.requires c.ran-r.ensures c.in-Cut.is in (
      omega (arith, deep, c.decreases),
      low-asked c.requires c.ran-r.ensures c.low_half.ensures
          (low-room _ c.args.depth _ deep c.requires.enough),
    )

-- ---- the high half
pub high_half-requires-clause-x_in : goal.high_half-requires-clause-x_in
high_half-requires-clause-x_in t c = returned-in c.requires c.ran-r.ensures

pub overflow_sub-depth-in-Cut : goal.overflow_sub-depth-in-Cut
overflow_sub-depth-in-Cut t c = omega (arith, depth-left c.requires c.ran-r.ensures c.in-Cut.is)

pub list_from-requires : goal.list_from-requires
list_from-requires t c =
    let deep = depth-left c.requires c.ran-r.ensures c.in-Cut.is in (
      omega (arith, deep, c.decreases),
      high-asked c.requires c.ran-r.ensures c.high_half.ensures
          (room-behind _ _ c.args.depth deep c.requires.enough c.list_from-next.ensures),
    )

-- ---- what is listed
pub returns-in-Dropped : goal.returns-in-Dropped
returns-in-Dropped t c = listed-none c.requires c.ran-r.ensures _ _ c.in-Dropped.is

pub returns-in-Unique : goal.returns-in-Unique
returns-in-Unique t c = listed-unique c.requires c.ran-r.ensures c.in-Unique.is c.put_box.ensures

pub returns-in-Open : goal.returns-in-Open
returns-in-Open t c = listed-open c.requires c.ran-r.ensures c.in-Open.is c.put_box-in-Open.ensures

pub returns-in-Cut : goal.returns-in-Cut
returns-in-Cut t c =
    listed-cut c.requires c.ran-r.ensures c.in-Cut.is c.low_half.ensures c.high_half.ensures
    c.list_from-next.ensures c.list_from.ensures
