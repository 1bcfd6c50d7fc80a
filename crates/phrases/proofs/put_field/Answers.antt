-- `phrases::put_field` meets its contract.
use native.Mathlib.Omega.{arith}
use Rattle.phrases.proofs.Says.{says-most}
use Rattle.phrases.proofs.put_field.Goals as goal

pub returns-in-Coefficient : goal.returns-in-Coefficient
returns-in-Coefficient c =
    rw c.in-Coefficient.is
    (says-most _ (omega arith) c.tell-in-Coefficient.ensures)
