use mathlib.Core.Path.{refl}
use lib.ListN.{length}
use Rattle.list_read.proofs.Spelled.{row-line-yes, row-line-no, row-line-none}
use Rattle.list_read.proofs.numbers.numbers.Goals as goal

pub returns-in-Some : goal.returns-in-Some
returns-in-Some c =
    let p = c.args in
    row-line-yes p.key.now p.text.now p.from (length p.vals.now) refl c.in-Some.ensures p.n c.if-list-n.true

pub returns-in_default : goal.returns-in_default
returns-in_default c =
    let p = c.args in
    row-line-no p.key.now p.text.now p.from (length p.vals.now) refl c.in-Some.ensures p.n c.if-list-n.false

pub returns-in_default-2 : goal.returns-in_default-2
returns-in_default-2 c =
    let p = c.args in
    row-line-none p.key.now p.text.now p.from (length p.vals.now) c.in_default.ensures p.n
