-- reply_reading: a part of the buffer is lent.
use native.Mathlib.Omega.{arith}
use mathlib.Core.Path.{sym}
use lib.Seq.{length-take-le}
use Rattle.answers.proofs.Asked.{asked_short}
use Rattle.answers.proofs.Leaving.{part-leaves}
use Rattle.answers.proofs.calls.reply_reading.Goals as goal

pub slice_bounds-reading-end : goal.slice_bounds-reading-end
slice_bounds-reading-end c =
    let short = rw (← c.read_asked-shown.ensures) at (asked_short c.args.words.now) in
    omega (arith, short, c.requires)

pub slice_bounds-reading-end-2 : goal.slice_bounds-reading-end-2
slice_bounds-reading-end-2 c =
    let short = rw (← c.read_asked-shown.ensures) at (asked_short c.args.words.now) in
    sym (length-take-le _ _ (omega (arith, short, c.requires)))

pub returns : goal.returns
returns c =
    let short = rw (← c.read_asked-shown.ensures) at (asked_short c.args.words.now) in
    rw (← c.read_asked-shown.ensures)
    (part-leaves _ c.args.out.now c.read_asked-shown.result.room (omega (arith, short, c.requires)) _ _ _
    c.reading.ensures)
