-- step_lines: the image's lines and behind them the decision's, from there whole or not at all.
use borrow.Author.Rules.{rules}
use native.Mathlib.Omega.{arith}
use Rattle.step_text.proofs.Short.{image-short, step-stands}
use Rattle.step_text.proofs.step_lines.Goals as goal

pub put_move-len-requires : goal.put_move-len-requires
put_move-len-requires c =
    let short = image-short c.args.n c.args.k c.requires.ends_fit.few in
    record { ends_fit = c.requires.ends_fit_2; at_le_text_max = omega (arith, c.put_image-at.ensures.next, short) }

pub hand_over-requires : goal.hand_over-requires
hand_over-requires c =
    let lines = step-stands c.args.n c.requires.ends_fit.few (search rules) c.args.k c.args.d
    c.put_image-at.ensures c.put_move-len.ensures in record { text_len = search rules; len_le_text_max = lines.short }

pub returns : goal.returns
returns c =
    let lines = step-stands c.args.n c.requires.ends_fit.few (search rules) c.args.k c.args.d
    c.put_image-at.ensures c.put_move-len.ensures in
    rw lines.text at c.hand_over.ensures
