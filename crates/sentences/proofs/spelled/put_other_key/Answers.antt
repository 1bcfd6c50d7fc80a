-- `sentences::spelled::put_other_key` meets its contract.
use native.Mathlib.Omega.{arith}
use Rattle.phrases.proofs.Says.{says-most, says_then}
use Rattle.sentences.proofs.spelled.put_other_key.Goals as goal

pub returns : goal.returns
returns c =
    says-most _ (omega arith) (says_then (says_then (says_then (says_then c.tell-a.ensures
    c.put_key-b.ensures) c.say-c.ensures) c.put_key-d.ensures)
    c.say.ensures)
