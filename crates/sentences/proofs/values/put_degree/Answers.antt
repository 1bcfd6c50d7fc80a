-- `sentences::values::put_degree` meets its contract.
use native.Mathlib.Omega.{arith}
use Rattle.phrases.proofs.Says.{says-most, says_then}
use Rattle.sentences.proofs.values.put_degree.Goals as goal

pub returns : goal.returns
returns c =
    says-most _ (omega arith) (says_then (says_then c.tell-a.ensures c.tell_first-b.ensures)
    c.tell_first.ensures)
