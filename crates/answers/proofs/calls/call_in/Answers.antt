-- call_in: the two calls that have no text.
use Rattle.answers.specs.Calls.{call_status, call_text}
use Rattle.answers.proofs.Leaving.{silent-leaves}
use Rattle.answers.proofs.calls.call_in.Goals as goal

pub returns-in-Clear-clause-answer : goal.returns-in-Clear-clause-answer
unfolding call_status call_text
returns-in-Clear-clause-answer c =
    rw (c.in-Clear.is, ← c.clear.ensures.answer) (silent-leaves _ _ c.silent.ensures)

pub returns-in-Close-clause-answer : goal.returns-in-Close-clause-answer
unfolding call_status call_text
returns-in-Close-clause-answer c =
    rw (c.in-Close.is, ← c.reply_close.ensures.answer) (silent-leaves _ _ c.silent-in-Close.ensures)
