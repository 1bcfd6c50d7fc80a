-- `sentences::values::put_terms` meets its contract.
use native.Mathlib.Omega.{arith}
use Rattle.phrases.proofs.Says.{says-most}
use Rattle.sentences.specs.Sentences.{term_words}
use Rattle.sentences.proofs.values.put_terms.Goals as goal

pub returns-in-None : goal.returns-in-None
unfolding term_words
returns-in-None c = rw c.in-None.is (says-most _ (omega arith) c.say.ensures)
