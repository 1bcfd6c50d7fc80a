-- move_lines: the lines in a buffer of their own, and from there whole or not at all.
use borrow.Author.Rules.{rules}
use Rattle.step_text.proofs.Short.{move-stands}
use Rattle.step_text.proofs.move_lines.Goals as goal

pub hand_over-requires : goal.hand_over-requires
hand_over-requires c =
    let lines =
    move-stands c.args.n c.requires.few (search rules) c.args.d c.put_move-len.ensures in
    record { text_len = search rules; len_le_text_max = lines.short }

pub returns : goal.returns
returns c =
    let lines =
    move-stands c.args.n c.requires.few (search rules) c.args.d c.put_move-len.ensures in
    rw lines.text at c.hand_over.ensures
