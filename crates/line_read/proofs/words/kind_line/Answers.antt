use mathlib.Core.Path.{◌≡◌, ◌∙◌}
use borrow.Author.Rules.{rules}
use Rattle.jobs.specs.declared.Kind.{Kind}
use Rattle.lines.specs.Texts.{kind_text}
use Rattle.line_read.specs.At.{word_from}
use Rattle.line_read.proofs.Single.{or_else, kind-line}
use Rattle.line_read.proofs.words.kind_line.Goals as goal

pub returns : goal.returns
returns c =
    let t = c.args.text.now in
    let a = c.args.from in
    let l : c.or_else.result ≡ or_else c.word.result (word_from (kind_text Kind.Linear) Kind.Linear t a) =
    search rules in
    let e : c.or_else-2.result ≡ or_else c.or_else.result (word_from (kind_text Kind.Eigen) Kind.Eigen t a) =
    search rules in
    c.ok_or.ensures.value ∙ rw (e, l, c.word.ensures) (kind-line t a)
