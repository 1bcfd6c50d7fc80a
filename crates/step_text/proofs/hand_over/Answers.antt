-- hand_over: a part of the buffer, which has it.
use native.Mathlib.Omega.{arith}
use mathlib.Core.Path.{sym}
use lib.ListN.{length-take}
use lib.Seq.{length-take-le}
use Rattle.step_text.proofs.hand_over.Goals as goal

pub slice_bounds-put_whole-end : goal.slice_bounds-put_whole-end
slice_bounds-put_whole-end c =
    sym (length-take-le c.args.len c.args.text.now (omega (arith, c.requires.text_len, c.requires.len_le_text_max)))

pub put_whole-requires : goal.put_whole-requires
put_whole-requires c =
    omega (arith, c.requires.len_le_text_max, length-take c.args.len c.args.text.now)
