-- `sentences::put_pinned` meets its contract.
use native.Mathlib.Omega.{arith}
use mir.Facts.{to_z-of_z}
use Rattle.sentences.specs.Sentences.{pin_slip_words}
use Rattle.phrases.proofs.Says.{says-most, says_then}
use Rattle.sentences.proofs.put_pinned.Goals as goal

pub returns-in-Last : goal.returns-in-Last
unfolding pin_slip_words
returns-in-Last c =
    rw c.in-Last.is
    (says-most _ (omega arith) (says_then (says_then c.say-a.ensures (rw (to_z-of_z
    c.ranges.v) at c.put_value-b.ensures)) c.say.ensures))

pub returns-in-Out : goal.returns-in-Out
unfolding pin_slip_words
returns-in-Out c =
    rw c.in-Out.is
    (says-most _ (omega arith) (says_then (says_then c.say-a.ensures (rw (to_z-of_z
    c.ranges.v) at c.put_value-b.ensures)) c.put_pin_range.ensures))
