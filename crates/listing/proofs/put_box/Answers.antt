-- put_box: three lines, one after the other.
use Prim.Native.Nat.{◌+◌, ◌*◌}
use native.Mathlib.Omega.{arith}
use lib.IntN.{pos}
use lib.ListN.{drop, get_or}
use mathlib.Core.Path.{◌≡◌}
use mir.Syntax.{w64}
use mir.Val.{to_z, of_z}
use Rattle.integers.proofs.Machine.{back, ok}
use Rattle.text.specs.Words.{lo_key}
use Rattle.writing.proofs.Wrote.{wrote-line, wrote-last}
use Rattle.halving.specs.Lists.{listed_places}
use Rattle.listing.specs.Lines.{box_lines, entry_lines}
use Rattle.listing.proofs.Short.{piece, word-short, row-short, entry-short}
use Rattle.listing.proofs.put_box.Goals as goal

pub put_ends-last-requires : goal.put_ends-last-requires
put_ends-last-requires c =
    let entry = c.requires.entry_in in
    record {
      few = entry.few;
      room = omega (
        arith,
        c.put_word-next.ensures.next,
        word-short c.says_unique.result,
        c.requires.at_le_last_max,
      );
      inside = omega (arith, entry.few, entry.inside);
      small = entry.low;
    }

pub put_ends-requires : goal.put_ends-requires
put_ends-requires c =
    let entry = c.requires.entry_in in
    let list = c.args.list.now in
    record {
      few = entry.few;
      room = omega (
        arith,
        c.put_word-next.ensures.next,
        c.put_ends-last.ensures.next,
        word-short c.says_unique.result,
        row-short lo_key c.args.n (drop (listed_places * c.args.i + 1) list) (omega arith) entry.few,
        c.requires.at_le_last_max,
      );
      inside = omega (arith, entry.few, entry.inside);
      small = entry.high;
    }

pub returns : goal.returns
unfolding box_lines entry_lines
returns c =
    let v = get_or c.args.list.now (listed_places * c.args.i) (pos 0) in
    let number : to_z w64 (of_z w64 v) ≡ v = back (ok v c.says_unique-arg-1.given) in
    piece
    (wrote-line _ _ (rw (rw number at c.says_unique.ensures) at c.put_word-next.ensures)
    (wrote-line _ _ c.put_ends-last.ensures (wrote-last _ c.put_ends.ensures)))
    (entry-short c.args.n c.args.list.now c.args.i c.requires.entry_in.few)
