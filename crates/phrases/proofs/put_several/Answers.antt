-- `phrases::put_several` meets its contract.
use native.Mathlib.Omega.{arith}
use Rattle.phrases.proofs.Says.{says-most, says_then}
use Rattle.phrases.proofs.put_several.Goals as goal

pub returns : goal.returns
returns c =
    says-most _ (omega arith) (says_then c.put_key-a.ensures c.tell.ensures)
