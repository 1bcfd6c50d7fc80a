-- `sentences::values::put_crossed` meets its contract.
use native.Mathlib.Omega.{arith}
use Rattle.phrases.proofs.Says.{says-most}
use Rattle.sentences.specs.Sentences.{crossed_words}
use Rattle.sentences.proofs.values.put_crossed.Goals as goal

pub returns-in-None : goal.returns-in-None
unfolding crossed_words
returns-in-None c = rw c.in-None.is (says-most _ (omega arith) c.say.ensures)
