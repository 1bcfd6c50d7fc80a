-- `batch::output::Block::put_head` meets its contract: a line and a piece fit behind a block.
use Rattle.std.proofs.Common.{arith, []}
use Rattle.writing.proofs.Lines.{count-line-short}
use Rattle.batch.proofs.output.Block.put_head.Goals as goal

pub put_head-requires : goal.put_head-requires
put_head-requires c =
    omega (
      arith,
      c.put_count_line-first.ensures.next,
      count-line-short [] c.args.bytes,
      c.args.self.now.within,
    )

pub returns : goal.returns
returns c =
    omega (
      arith,
      c.put_count_line-first.ensures.next,
      count-line-short [] c.args.bytes,
      c.args.self.now.within,
      c.put_head.ensures.short,
    )
