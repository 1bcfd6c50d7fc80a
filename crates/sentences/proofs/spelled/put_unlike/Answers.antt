-- `sentences::spelled::put_unlike` meets its contract.
use native.Mathlib.Omega.{arith}
use Rattle.phrases.proofs.Says.{says-most, says_then}
use Rattle.sentences.specs.Sentences.{unlike_words}
use Rattle.sentences.proofs.spelled.put_unlike.Goals as goal

pub returns : goal.returns
unfolding unlike_words
returns c =
    rw (← c.unlike_bytes.ensures.0)
    (says-most _ (omega arith) (says_then c.tell-a.ensures c.put_expected.ensures))
