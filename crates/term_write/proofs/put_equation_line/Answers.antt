-- `term_write::put_equation_line` meets its contract.
use native.Mathlib.Omega.{arith}
use Rattle.writing.proofs.Wrote.{wrote_keyed}
use Rattle.term_write.specs.ShowTerms.{equation_text}
use Rattle.term_write.proofs.Terms.{terms-short}
use Rattle.term_write.proofs.put_equation_line.Goals as goal

pub put_byte-requires : goal.put_byte-requires
put_byte-requires c =
    let q = c.args.q in
    omega (
      arith,
      c.put_bytes-a.ensures.next,
      c.put_terms-b.ensures.next,
      terms-short c.args.n q q.count c.requires.few,
      c.requires.room,
      c.requires.good.few,
    )

pub returns : goal.returns
unfolding equation_text
returns c = wrote_keyed c.put_bytes-a.ensures c.put_terms-b.ensures c.put_byte.ensures
