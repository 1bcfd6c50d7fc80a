-- wider: the widths of the two edges are compared.
use Rattle.integers.proofs.Machine.{got}
use Rattle.edges.proofs.Fits.{fits_width}
use Rattle.edges.proofs.Found.{wider-yes, wider-no}
use Rattle.edges.proofs.wider.Goals as goal

pub width-requires : goal.width-requires
width-requires c = fits_width (c.requires.x_in.each c.args.k c.requires.live.1)

pub width-requires-2 : goal.width-requires-2
width-requires-2 c =
    fits_width (c.requires.x_in.each c.args.i c.requires.live.0)

pub returns-then-width : goal.returns-then-width
returns-then-width c =
    let a = c.args in
    let most = got c.width.type_inv c.width.ensures in
    let next = got c.width-2.type_inv c.width-2.ensures in
    wider-yes _ a.i a.k (rw (most, next) at c.if-width.true)

pub returns : goal.returns
returns c =
    let a = c.args in
    let most = got c.width.type_inv c.width.ensures in
    let next = got c.width-2.type_inv c.width-2.ensures in
    wider-no _ a.i a.k (rw (most, next) at c.if-width.false)
