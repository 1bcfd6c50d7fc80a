use mathlib.Core.Path.{refl, sym, ◌∙◌}
use Rattle.scan.proofs.Keyed.{key-long}
use Rattle.scan.proofs.Listing.{no-list, other_key, keyed}
use Rattle.scan.proofs.lines.list_at.Goals as goal

pub returns-then-not-key_at : goal.returns-then-not-key_at
returns-then-not-key_at c =
    let a = c.args in
    let p = c.requires in
    no-list a.vals.now (other_key _ _ _ p.0 (sym c.key_at.ensures ∙ c.if-not-key_at.true)) refl refl p.2.zero

pub numbers_at-requires : goal.numbers_at-requires
numbers_at-requires c =
    let p = c.requires in
    let a = c.args in
    (key-long a.s.now a.key.now a.from p.0 (sym c.key_at.ensures ∙ c.if-not-key_at.false), p.2)

pub returns : goal.returns
returns c =
    let p = c.requires in
    keyed _ _ _ p.0 p.1 (sym c.key_at.ensures ∙ c.if-not-key_at.false) _ _ _ c.numbers_at.ensures
