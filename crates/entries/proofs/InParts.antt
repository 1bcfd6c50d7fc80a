-- What any parts of a text lead to.
use mathlib.Core.Path.{◌≡◌, refl, sym, ap, ◌∙◌}
use mathlib.Core.List.{List, [], foldl}
use mathlib.Core.Bool.{Bool, true, false, true≢false}
use mathlib.Core.Logic.{◌↔◌}
use Prim.Native.Nat.{ℕ, ◌≤◌, min}
use lib.ListN.{length, take}
use Rattle.sizes.specs.Sizes.{text_max}
use Rattle.digits.specs.Bytes.{line_feed}
use Rattle.text.specs.Cut.{feeds, pieces, rest}
use Rattle.faults.specs.declared.Fault.{Fault}
use Rattle.faults.specs.Checked.{refused}
use Rattle.faults.specs.Checks.{is_bad}
use Rattle.reading.specs.Lines.{step, begin, opened, more, closed, ended, read, joined_parts}
use Rattle.job_form.specs.JobForm.{job_form_of, read_job}
use Rattle.next_line.specs.State.{state_of}
use Rattle.job_parts.specs.declared.Parts.{Parts}
use Rattle.job_parts.specs.declared.Taken.{Taken}
use Rattle.job_parts.specs.Limits.{size_max, fits}
use Rattle.job_parts.specs.Parts.{part_taken, beyond_limits, end_of, given}
use Rattle.job_parts.proofs.Whole.{text-fits, text-whole, given-all, size-counted, held-line, read-lines}
use Rattle.std.specs.Prelude.{Ok}

module _ (ps : List (List ℕ)) where
  pub given-fits : fits (given ps) ≡ true
  given-fits = ap fits (given-all ps) ∙ text-fits (joined_parts ps)

  pub given-end : end_of (given ps) ≡ read_job (joined_parts ps)
  given-end = ap end_of (given-all ps) ∙ text-whole (joined_parts ps)

  pub given-done : (part : List ℕ) → (part_taken (given ps) part).status ≡ Ok tt
  unfolding part_taken
  given-done part = rw given-fits

  pub given_counted : (given ps).size ≡ min (length (joined_parts ps)) size_max
  given_counted = ap (λ (p : Parts). p.size) (given-all ps) ∙ size-counted (joined_parts ps)

  module _ (few : length (joined_parts ps) ≤ text_max) where
    pub given-held : take (given ps).held (given ps).bytes ≡ rest line_feed (joined_parts ps)
    given-held = rw (given-all ps) (held-line (joined_parts ps) few)

    pub given-read : state_of (given ps).read ≡ foldl (step job_form_of) (begin job_form_of)
        (pieces line_feed (joined_parts ps))
    given-read = rw (given-all ps) (read-lines (joined_parts ps) few)

nothing_read : read_job (joined_parts []) ≡ refused Fault.Spelling 1
unfolding joined_parts read_job read closed more opened feeds ended
nothing_read = refl

pub nothing-given : end_of (given []) ≡ refused Fault.Spelling 1
nothing-given = given-end [] ∙ nothing_read

module _ (p : Parts) where
  pub handed-back : (part : List ℕ) → fits p ≡ false → part_taken p part ≡ record { status = beyond_limits; parts = p }
  unfolding part_taken
  handed-back part e = rw e

  pub end_refused : fits p ≡ false → end_of p ≡ beyond_limits
  unfolding end_of
  end_refused e = rw e

  not-refused : (part : List ℕ) → fits p ≡ true → (part_taken p part).status ≡ Ok tt
  unfolding part_taken
  not-refused part e = rw e

  pub beyond-exactly : (part : List ℕ) → ((part_taken p part).status ≡ beyond_limits) ↔ (fits p ≡ false)
  beyond-exactly part = (beyond (fits p) refl, λ e. ap (λ (t : Taken). t.status) (handed-back part e))
    where
      beyond : (b : Bool) → fits p ≡ b → (part_taken p part).status ≡ beyond_limits → fits p ≡ false
      beyond true e w = absurd (true≢false (ap is_bad (sym w ∙ not-refused part e)))
      beyond false e w = e
