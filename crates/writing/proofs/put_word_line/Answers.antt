-- `writing::put_word_line` meets its contract.
use Rattle.writing.proofs.Wrote.{wrote_keyed}
use Rattle.writing.proofs.put_word_line.Goals as goal

pub returns : goal.returns
returns c = wrote_keyed c.put_bytes-a.ensures c.put_bytes-b.ensures c.put_byte.ensures
