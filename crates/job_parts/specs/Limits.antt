-- The limits of what is carried between calls: document 02, P1, with reading P1-c: where a count, a length or a line
-- number is beyond its limit, the call is refused by 4, line 0.
use Rattle.std.specs.Prelude.{ℕ, ◌+◌, Bool, ◌&&◌, leb}
use Rattle.sizes.specs.Sizes.{text_max}
use Rattle.next_line.specs.Limits.{read_fits}
use Rattle.job_parts.specs.declared.Parts.{Parts}

-- bytes are counted up to one over a text's limit
abbrev pub size_max : ℕ
size_max = text_max + 1

-- a line that is held has come, and no more than a text may have
unfoldable pub fits : Parts → Bool
fits p = leb p.size size_max && leb p.held p.size && leb p.held text_max && read_fits p.read
