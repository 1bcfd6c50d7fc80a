-- put_word: the word of each case.
use Rattle.step_text.proofs.putting.put_word.Goals as goal

pub returns-in-None : goal.returns-in-None
returns-in-None c =
    rw c.in-None.is c.put_word_line.ensures

pub returns-in-Unique : goal.returns-in-Unique
returns-in-Unique c =
    rw c.in-Unique.is c.put_word_line-in-Unique.ensures

pub returns-in-Stalled : goal.returns-in-Stalled
returns-in-Stalled c =
    rw c.in-Stalled.is c.put_word_line-in-Stalled.ensures

pub returns-in-Next : goal.returns-in-Next
returns-in-Next c =
    rw c.in-Next.is c.put_word_line-in-Next.ensures
