use mathlib.Core.Path.{sym, ◌∙◌}
use Rattle.text.specs.Words.{eq_key}
use Rattle.scan.proofs.Keyed.{key-long}
use Rattle.term_read.proofs.Several.{other_key, keyed}
use Rattle.term_read.proofs.terms_at.Goals as goal

pub returns-then-not-key_at : goal.returns-then-not-key_at
returns-then-not-key_at c = other_key _ _ _ c.requires.1 (sym c.key_at.ensures ∙ c.if-not-key_at.true)

pub terms_from-requires : goal.terms_from-requires
terms_from-requires c =
    let a = c.args in
    let p = c.requires in
    (p.0, key-long a.s.now eq_key a.from p.1 (sym c.key_at.ensures ∙ c.if-not-key_at.false))

pub returns : goal.returns
returns c = keyed _ _ _ c.requires.1 (sym c.key_at.ensures ∙ c.if-not-key_at.false) c.terms_from.ensures
