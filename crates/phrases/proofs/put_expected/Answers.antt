-- `phrases::put_expected` meets its contract.
use native.Mathlib.Omega.{arith}
use Rattle.phrases.specs.Words.{expected_words}
use Rattle.phrases.proofs.Says.{says-most, says_then}
use Rattle.phrases.proofs.put_expected.Goals as goal

pub returns : goal.returns
unfolding expected_words
returns c =
    says-most _ (omega arith) (says_then c.say-a.ensures c.put_form.ensures)
