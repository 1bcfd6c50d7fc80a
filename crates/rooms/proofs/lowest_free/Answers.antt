-- `rooms::lowest_free` meets its contract.
use native.Mathlib.Omega.{arith}
use mathlib.Core.Path.{◌≡◌, sym, ◌∙◌}
use Rattle.room_form.specs.Table.{rooms_max}
use Rattle.room_form.proofs.Lowest.{first-here, first-later, first-none}
use Rattle.rooms.proofs.lowest_free.Goals as goal

pub returns-then-is_free-clause-lowest : goal.returns-then-is_free-clause-lowest
returns-then-is_free-clause-lowest c =
    let is = sym c.is_free.ensures ∙ c.if-is_free.true in
    sym (c.loop-k.invariant.1 ∙ first-here _ rooms_max _ c.loop-k-test.true is)

pub loop-k-preserved : goal.loop-k-preserved
loop-k-preserved c =
    let other = sym c.is_free.ensures ∙ c.if-is_free.false in
    (omega arith, c.loop-k.invariant.1 ∙ first-later _ rooms_max _ c.loop-k-test.true other)

pub returns-clause-lowest : goal.returns-clause-lowest
returns-clause-lowest c =
    let l = c.loop-k in
    let all : l.k ≡ rooms_max = omega (arith, l.invariant.0, c.loop-k-test.false) in
    sym (l.invariant.1 ∙ first-none _ rooms_max _ c.loop-k-test.false ∙ all)
