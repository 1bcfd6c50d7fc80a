-- `term_write::put_comma` meets its contract.
use Rattle.writing.proofs.Wrote.{wrote_none}
use Rattle.term_write.proofs.Joined.{comma-first, comma-later}
use Rattle.term_write.proofs.put_comma.Goals as goal

pub returns-then-i-eq0 : goal.returns-then-i-eq0
returns-then-i-eq0 c = rw (comma-first c.args.i c.if-i-eq0.true) (wrote_none _ _)

pub returns : goal.returns
returns c =
    rw (comma-later c.args.i
    c.if-i-eq0.false) c.put_byte.ensures
