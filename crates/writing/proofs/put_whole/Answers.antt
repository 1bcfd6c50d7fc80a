-- put_whole: the text's bytes, where they have room.
use mathlib.Core.Path.{ap}
use mathlib.Core.List.{List, ◌++◌}
use Prim.Native.Nat.{ℕ}
use lib.ListN.{length, drop}
use Rattle.faults.proofs.Answer.{no_room, has_room}
use Rattle.writing.proofs.put_whole.Goals as goal

pub returns-then-out-text : goal.returns-then-out-text
returns-then-out-text c =
    let args = c.args in
    rw c.refused.ensures (no_room args.text.now args.out.now c.if-out-text.true)

pub returns : goal.returns
returns c =
    let args = c.args in
    has_room args.text.now args.out.now c.if-out-text.false
    (ap (λ (t : List ℕ). t ++ drop (length args.text.now) args.out.now) c.copy_from_slice.ensures.after)
