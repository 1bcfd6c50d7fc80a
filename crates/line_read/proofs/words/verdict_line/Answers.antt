use mathlib.Core.Path.{◌≡◌, ◌∙◌}
use borrow.Author.Rules.{rules}
use Rattle.jobs.specs.declared.Verdict.{Verdict}
use Rattle.lines.specs.Texts.{verdict_text}
use Rattle.line_read.specs.At.{word_from}
use Rattle.line_read.proofs.Single.{or_else, verdict-line}
use Rattle.line_read.proofs.words.verdict_line.Goals as goal

pub returns : goal.returns
returns c =
    let t = c.args.text.now in
    let a = c.args.from in
    let u : c.or_else.result ≡ or_else c.word.result (word_from (verdict_text Verdict.Unique) Verdict.Unique t a) =
    search rules in
    let s : c.or_else-2.result
    ≡ or_else c.or_else.result (word_from (verdict_text Verdict.Stalled) Verdict.Stalled t a) =
    search rules in
    let p : c.or_else-3.result
    ≡ or_else c.or_else-2.result (word_from (verdict_text Verdict.Spent) Verdict.Spent t a) =
    search rules in
    c.ok_or.ensures.value ∙ rw (p, s, u, c.word.ensures) (verdict-line t a)
