-- `writing::put_list` meets its contract.
use borrow.Author.Rules.{rules}
use native.Mathlib.Omega.{arith}
use mathlib.Core.Path.{◌≡◌}
use mathlib.Core.List.{◌∷◌}
use mir.Syntax.{w64}
use mir.Facts.{to_z-of_z}
use Rattle.digits.proofs.Show.{number_short}
use Rattle.text.specs.Lists.{joined, show_all, Below}
use Rattle.writing.proofs.Wrote.{wrote-append, wrote_none}
use Rattle.writing.proofs.Lists.{list-none}
use Rattle.writing.proofs.put_list.Goals as goal

pub returns-in_default : goal.returns-in_default
returns-in_default c = rw (list-none c.args.k c.args.xs.now c.in_default.ensures.cases) (wrote_none _ _)

pub put_number-next-requires : goal.put_number-next-requires
unfolding Below
put_number-next-requires c =
    let is : c.args.xs.now ≡ c.in-Some.first.now ∷ c.in-Some.others.now = c.in-Some.ensures.cases.0 in
    let below = rw is at c.requires.2 in (
      c.requires.0,
      omega (arith, c.requires.1),
      rw (to_z-of_z {w = w64} {z = c.in-Some.first.now} (search rules)) below.0,
    )

pub put_more-requires : goal.put_more-requires
unfolding Below
put_more-requires c =
    let v = c.in-Some.first.now in
    let is : c.args.xs.now ≡ c.in-Some.first.now ∷ c.in-Some.others.now = c.in-Some.ensures.cases.0 in
    let below = rw is at c.requires.2 in
    let room = rw is at c.requires.1 in
    let number = rw (to_z-of_z {w = w64} {z = v} (search rules)) at c.put_number-next.ensures in
    (c.requires.0, omega (arith, number.next, number_short c.args.k v, room), below.1)

pub returns : goal.returns
unfolding show_all joined
returns c =
    let is : c.args.xs.now ≡ c.in-Some.first.now ∷ c.in-Some.others.now = c.in-Some.ensures.cases.0 in
    let number = rw (to_z-of_z {w = w64} {z = c.in-Some.first.now} (search rules)) at c.put_number-next.ensures in
    rw is (wrote-append number c.put_more.ensures)
