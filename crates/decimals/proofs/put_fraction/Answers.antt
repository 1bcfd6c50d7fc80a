-- `decimals::put_fraction` meets its contract.
use borrow.Author.Tests.{eq-eqb, ne_eqb}
use Rattle.writing.proofs.Wrote.{wrote-append, wrote_none}
use Rattle.decimals.specs.Units.{fraction}
use Rattle.decimals.proofs.put_fraction.Goals as goal

pub returns-then-r-eq0 : goal.returns-then-r-eq0
unfolding fraction
returns-then-r-eq0 c = rw (eq-eqb _ _ c.if-r-eq0.true) (wrote_none _ _)

pub returns : goal.returns
unfolding fraction
returns c =
    rw (ne_eqb _ _ c.if-r-eq0.false)
    (wrote-append c.put_byte-next.ensures c.put_decimals.ensures)
