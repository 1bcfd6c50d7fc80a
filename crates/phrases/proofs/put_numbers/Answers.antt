-- `phrases::put_numbers` meets its contract.
use native.Mathlib.Omega.{arith}
use Rattle.phrases.proofs.Says.{says-most, says_then}
use Rattle.phrases.proofs.put_numbers.Goals as goal

pub returns-then-m-eq1 : goal.returns-then-m-eq1
returns-then-m-eq1 c =
    rw c.if-m-eq1.true
    (says-most _ (omega arith)
    (says_then c.put_key-a.ensures
    c.say.ensures))
