use mathlib.Core.Path.{sym, ◌∙◌}
use Rattle.scan.proofs.Counting.{other-line, line-is}
use Rattle.scan.proofs.lines.line_is.Goals as goal

pub returns-then-key_at : goal.returns-then-key_at
returns-then-key_at c =
    let p = c.requires in
    c.is_at.ensures ∙ line-is _ _ _ p.0 p.1 (sym c.key_at.ensures ∙ c.if-key_at.true)

pub returns-else-key_at : goal.returns-else-key_at
returns-else-key_at c =
    let n = c.if-key_at.false in
    n ∙ sym (other-line _ _ _ c.requires.0 (sym c.key_at.ensures ∙ n))
