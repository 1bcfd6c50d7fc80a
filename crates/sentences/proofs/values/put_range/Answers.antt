-- `sentences::values::put_range` meets its contract.
use native.Mathlib.Omega.{arith}
use Rattle.phrases.proofs.Says.{says-most, says_then}
use Rattle.sentences.proofs.values.put_range.Goals as goal

pub returns : goal.returns
returns c =
    says-most _ (omega arith) (says_then (says_then c.say-a.ensures
    c.tell-b.ensures) c.put_count.ensures)
