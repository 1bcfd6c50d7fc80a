-- `sentences::values::put_count_far` meets its contract.
use native.Mathlib.Omega.{arith}
use mir.Facts.{to_z-of_z}
use Rattle.phrases.proofs.Says.{says-most, says_then}
use Rattle.sentences.proofs.values.put_count_far.Goals as goal

pub returns : goal.returns
returns c =
    says-most _ (omega arith) (says_then (says_then c.say-a.ensures (rw (to_z-of_z
    c.ranges.v) at c.put_value-b.ensures)) c.tell.ensures)
