-- `units::write_checked` meets its contract.
use borrow.Author.Rules.{rules}
use native.Mathlib.Omega.{arith}
use mathlib.Core.Path.{sym}
use lib.Seq.{length-take-le}
use Rattle.result_write.proofs.Ready.{ready-done}
use Rattle.units.proofs.Both.{result-done, result-whole, checked-short}
use Rattle.units.proofs.write_checked.Goals as goal

pub returns-in_err-len : goal.returns-in_err-len
returns-in_err-len c =
    let done = result-done c.args.r c.requires (search rules) c.in_err-len.ensures in
    absurd (cc)

pub slice_bounds-text-end : goal.slice_bounds-text-end
slice_bounds-text-end c =
    let whole = result-whole _ c.requires (search rules) c.in_ok-len.ensures in
    omega (arith, whole.inside)

pub slice_bounds-put_both-end : goal.slice_bounds-put_both-end
slice_bounds-put_both-end c =
    let whole = result-whole _ c.requires (search rules) c.in_ok-len.ensures in
    sym (length-take-le _ _ whole.inside)

pub put_both-requires : goal.put_both-requires
put_both-requires c =
    let r = c.args.r in
    let whole = result-whole r c.requires (search rules) c.in_ok-len.ensures in
    record {
      text = whole.text;
      short = rw whole.text (checked-short r c.requires);
      ready = ready-done r c.requires;
    }
