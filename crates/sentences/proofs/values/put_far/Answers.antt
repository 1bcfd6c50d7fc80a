-- `sentences::values::put_far` meets its contract.
use native.Mathlib.Omega.{arith}
use Rattle.phrases.proofs.Says.{says-most}
use Rattle.sentences.specs.Sentences.{far_words}
use Rattle.sentences.proofs.values.put_far.Goals as goal

pub returns-in-None : goal.returns-in-None
unfolding far_words
returns-in-None c = rw c.in-None.is (says-most _ (omega arith) c.put_range.ensures)
