-- `result_write::write_ready` meets its contract.
use borrow.Author.Tests.{leb-true, leb-false}
use native.Mathlib.Nat.{zero-add}
use mathlib.Core.Path.{sym, ◌∙◌}
use lib.ListN.{length}
use Rattle.faults.proofs.Answer.{no_room}
use Rattle.writing.proofs.Answer.{all-written}
use Rattle.result_form.specs.ResultShows.{show_result}
use Rattle.result_write.proofs.Ready.{ready-done}
use Rattle.result_write.proofs.write_ready.Goals as goal

pub fits-requires : goal.fits-requires
fits-requires c = ready-done c.args.r c.requires

pub returns-then-not-fits : goal.returns-then-not-fits
returns-then-not-fits c =
    let args = c.args in
    rw c.refused.ensures
    (no_room (show_result args.r) args.out.now
    (leb-false (length (show_result args.r)) (length args.out.now)
    (sym c.fits.ensures ∙ c.if-not-fits.true)))

pub put_result-requires : goal.put_result-requires
put_result-requires c = ready-done c.args.r c.requires

pub returns : goal.returns
returns c =
    let args = c.args in
    let wrote = c.put_result.ensures in
    let fits = leb-true (length (show_result args.r)) (length args.out.now)
    (sym c.fits.ensures ∙ c.if-not-fits.false) in
    rw (wrote.next ∙ zero-add (length (show_result args.r)))
    (all-written (show_result args.r) args.out.now fits wrote)
