-- `sentences::spelled::put_number_not` meets its contract.
use native.Mathlib.Omega.{arith}
use Rattle.phrases.proofs.Says.{says-most, says_then}
use Rattle.sentences.proofs.spelled.put_number_not.Goals as goal

pub returns : goal.returns
returns c =
    says-most _ (omega arith) (says_then (says_then c.put_field-a.ensures c.put_wrong-b.ensures)
    c.put_expected.ensures)
