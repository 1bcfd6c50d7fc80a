-- `writing::put_bytes` meets its contract.
use lib.ListN.{take}
use Rattle.writing.specs.Wrote.{Wrote}
use Rattle.writing.proofs.put_bytes.Given as goal

abbrev pub invariant-loop-b : goal.invariant-loop-b
invariant-loop-b l = Wrote l.initial.buf l.buf l.at l.p (take l.b-index l.bs)
