-- `sentences::values::put_many` meets its contract.
use native.Mathlib.Omega.{arith}
use Rattle.phrases.proofs.Says.{says-most, says_then}
use Rattle.sentences.proofs.values.put_many.Goals as goal

pub returns : goal.returns
returns c =
    says-most _ (omega arith) (says_then c.tell-a.ensures c.put_count.ensures)
