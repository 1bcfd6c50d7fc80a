-- Request P1, "Job text that arrives by the handful". Only statements, each proved by one line from the files beside
-- this one and in job_parts. `part_taken` and `end_of` are what the public operations answer, `given` is what is
-- carried after some parts (job_parts, specs/Parts).
use mathlib.Core.Path.{◌≡◌, sym, ap, ◌∙◌}
use mathlib.Core.List.{List, [], foldl}
use mathlib.Core.Bool.{false}
use mathlib.Core.Logic.{◌↔◌}
use Prim.Native.Nat.{ℕ, ◌≤◌, min}
use lib.ListN.{length, take}
use Rattle.sizes.specs.Sizes.{text_max}
use Rattle.digits.specs.Bytes.{line_feed}
use Rattle.text.specs.Cut.{pieces, rest}
use Rattle.faults.specs.declared.Fault.{Fault}
use Rattle.faults.specs.Checked.{refused}
use Rattle.reading.specs.Lines.{step, begin, joined_parts}
use Rattle.job_form.specs.JobForm.{job_form_of, read_job}
use Rattle.next_line.specs.State.{state_of}
use Rattle.job_parts.specs.declared.Parts.{Parts}
use Rattle.job_parts.specs.Limits.{size_max, fits}
use Rattle.job_parts.specs.Parts.{part_taken, end_of, given}
use Rattle.entries.proofs.InParts as parts
use Rattle.std.specs.Prelude.{Ok}

-- "a reader that takes a job's text in parts of any length, zero included, and answers only when told the text has
-- ended. Its answer, fault number and line must be those of the whole text read at once,"
pub whole-text : (ps : List (List ℕ)) → end_of (given ps) ≡ read_job (joined_parts ps)
whole-text = parts.given-end

-- "wherever the cuts fall."
pub any-cuts : (ps qs : List (List ℕ)) → joined_parts ps ≡ joined_parts qs → end_of (given ps) ≡ end_of (given qs)
any-cuts ps qs e = whole-text ps ∙ ap read_job e ∙ sym (whole-text qs)

-- no part at all: the empty text, whose first line is missing
pub no_part : end_of (given []) ≡ refused Fault.Spelling 1
no_part = parts.nothing-given

-- "It may hold only one line": the bytes behind the last line feed,
module _ (ps : List (List ℕ)) (few : length (joined_parts ps) ≤ text_max) where
  pub one_line : take (given ps).held (given ps).bytes ≡ rest line_feed (joined_parts ps)
  one_line = parts.given-held ps few

  -- "and what is already read": what the lines say that have ended, or the first bad one's fault and number
  pub already-read : state_of (given ps).read ≡ foldl (step job_form_of) (begin job_form_of)
      (pieces line_feed (joined_parts ps))
  already-read = parts.given-read ps few

-- bytes are counted to the end, and the count stops one over the limit
pub counted : (ps : List (List ℕ)) → (given ps).size ≡ min (length (joined_parts ps)) size_max
counted = parts.given_counted

-- every state that is reached passes the check, so that no part of an honest text is refused
pub never-refused : (ps : List (List ℕ)) (part : List ℕ) → (part_taken (given ps) part).status ≡ Ok tt
never-refused = parts.given-done

-- 4, line 0, exactly where a count, a length or a line number is beyond its limits; the state is handed back as it was,
module _ (p : Parts) where
  pub refused-exactly : (part : List ℕ) → ((part_taken p part).status ≡ refused Fault.Beyond 0) ↔
      (fits p ≡ false)
  refused-exactly = parts.beyond-exactly p

  pub handed-back : (part : List ℕ) → fits p ≡ false
      → part_taken p part ≡ record { status = refused Fault.Beyond 0; parts = p }
  handed-back = parts.handed-back p

  -- and so is the end
  pub end_refused : fits p ≡ false → end_of p ≡ refused Fault.Beyond 0
  end_refused = parts.end_refused p
