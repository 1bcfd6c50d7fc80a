-- `result_write::fits` meets its contract.
use borrow.Author.Tests.{le-leb}
use native.Mathlib.Omega.{arith}
use mathlib.Core.Path.{sym}
use lib.ListN.{length}
use Rattle.result_form.specs.ResultShows.{show_result}
use Rattle.result_form.proofs.Trips.{result-short}
use Rattle.result_write.proofs.fits.Goals as goal

pub returns-then-room-ge-TEXT : goal.returns-then-room-ge-TEXT
returns-then-room-ge-TEXT c =
    let args = c.args in
    sym (le-leb (length (show_result args.r)) args.room
    (omega (arith, result-short args.r c.requires.few, c.if-room-ge-TEXT.true)))
