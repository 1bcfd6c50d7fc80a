-- The sizes of what `batch` keeps of a run.
use Rattle.std.specs.Prelude.{ℕ, ◌+◌}
use Rattle.sizes.specs.Sizes.{text_max}
use Rattle.requests.specs.Packets.{header_max}
use Rattle.answers.specs.Answers.{room_max, line_max}

abbrev pub block_max : ℕ
block_max = 65536

-- of a request that is not whole, at most a line and one byte more of text than may be is at hand, and a block fits
-- behind
abbrev pub in_max : ℕ
in_max = header_max + text_max + 1 + block_max

-- behind a block of answers fits one more, with its line
abbrev pub out_max : ℕ
out_max = block_max + room_max + line_max
