-- Document 02, P1: "a reader that takes a job's text in parts of any length, zero included, and answers only when told
-- the text has ended. .. It may hold only one line and what is already read."
use Rattle.std.specs.Prelude.{ℕ, ◌+◌, cond, set, replicate, eqb, ltb, Ok}
use mathlib.Core.List.{List, foldl}
use Rattle.sizes.specs.Sizes.{text_max}
use Rattle.faults.specs.declared.Fault.{Fault}
use Rattle.faults.specs.Checked.{Checked, refused}
use Rattle.jobs.specs.declared.Job.{Job}
use Rattle.lines.specs.Answered.{answered}
use Rattle.digits.specs.Bytes.{line_feed}
use Rattle.reading.specs.Lines.{ended}
use Rattle.job_form.specs.JobForm.{job_form_of}
use Rattle.job_parts.specs.declared.Parts.{Parts}
use Rattle.job_parts.specs.declared.Taken.{Taken}
use Rattle.next_line.specs.State.{none_read, state_of, line_taken}
use Rattle.job_parts.specs.Limits.{size_max, fits}

abbrev pub begun : Parts
begun = record { size = 0; held = 0; read = none_read; bytes = replicate text_max 0 }

-- a byte is held; an LF ends its line, and nothing of it is held any longer
unfoldable pub with_byte : Parts → ℕ → List ℕ → Parts
with_byte p b bytes =
    cond (eqb b line_feed) (record { size = p.size + 1; held = 0; read = line_taken p.read bytes; bytes = bytes })
    (record { size = p.size + 1; held = p.held + 1; read = p.read; bytes = bytes })

abbrev pub too_long : Parts → Parts
too_long p = record { size = size_max; held = p.held; read = p.read; bytes = p.bytes }

-- one byte: past a text's limit the count stops, and nothing more is held
unfoldable pub byte_taken : Parts → ℕ → Parts
byte_taken p b = cond (ltb p.size text_max) (with_byte p b (set p.bytes p.held b)) (too_long p)

unfoldable pub bytes_taken : Parts → List ℕ → Parts
bytes_taken p bs = foldl byte_taken p bs

abbrev pub beyond_limits : {A : Type 0} → Checked A
beyond_limits = refused Fault.Beyond 0

-- "takes a job's text in parts of any length, zero included": a refusal "hands the state back as it was"
unfoldable pub part_taken : Parts → List ℕ → Taken
part_taken p bs =
    cond (fits p) (record { status = Ok tt; parts = bytes_taken p bs })
    (record { status = beyond_limits; parts = p })

-- "answers only when told the text has ended"; "Fault 1 comes first", with line 0
unfoldable pub whole : Parts → Checked Job
whole p =
    cond (ltb text_max p.size) (refused Fault.LongText 0)
    (answered (ended job_form_of (state_of p.read) p.held))

unfoldable pub end_of : Parts → Checked Job
end_of p = cond (fits p) (whole p) beyond_limits

-- what is carried after these parts
unfoldable pub given : List (List ℕ) → Parts
given ps = foldl (λ p part. (part_taken p part).parts) begun ps
