use mathlib.Core.Path.{sym, ◌∙◌}
use Rattle.line_read.proofs.Single.{line-past}
use Rattle.line_read.proofs.words.word.Goals as goal

pub returns-then-line_is : goal.returns-then-line_is
returns-then-line_is g c =
    let p = c.args in
    let y = sym c.line_is.ensures ∙ c.if-line_is.true in
    let e = line-past p.line.now p.text.now p.from c.requires.0 y in
    rw (y, e)
