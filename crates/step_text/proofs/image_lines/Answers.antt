-- image_lines: the lines in a buffer of their own, and from there whole or not at all.
use borrow.Author.Rules.{rules}
use Rattle.step_text.proofs.Short.{image-stands}
use Rattle.step_text.proofs.image_lines.Goals as goal

pub hand_over-requires : goal.hand_over-requires
hand_over-requires c =
    let lines =
    image-stands c.args.n c.requires.few (search rules) c.args.k c.put_image-len.ensures in
    record { text_len = search rules; len_le_text_max = lines.short }

pub returns : goal.returns
returns c =
    let lines =
    image-stands c.args.n c.requires.few (search rules) c.args.k c.put_image-len.ensures in
    rw lines.text at c.hand_over.ensures
