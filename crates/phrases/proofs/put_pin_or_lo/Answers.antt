-- `phrases::put_pin_or_lo` meets its contract.
use native.Mathlib.Omega.{arith}
use Rattle.phrases.proofs.Says.{says-most, says_then}
use Rattle.phrases.proofs.put_pin_or_lo.Goals as goal

pub returns : goal.returns
returns c =
    says-most _ (omega arith) (says_then (says_then c.put_pin-a.ensures c.say-b.ensures)
    c.put_several.ensures)
