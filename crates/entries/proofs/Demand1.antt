-- Demand 1 in document 01's numbers: what each public entry tells of a fault, its number and its line, by the
-- definitions that its contract cites. Only statements, each proved by one line from the files beside this one. `told`
-- is `number_of` and `line_of` of an answer, 0 and 0 where there is no fault.
use mathlib.Core.Path.{◌≡◌, ap, sym, ◌∙◌}
use mathlib.Core.List.{List, [], ◌++◌}
use mathlib.Core.Logic.{◌↔◌}
use Prim.Native.Nat.{ℕ, ◌≤◌, ◌<◌}
use lib.IntN.{ℤ}
use lib.ListN.{length, drop}
use Rattle.sizes.specs.Sizes.{text_max}
use Rattle.checks.specs.Checks.{check_job}
use Rattle.checks.specs.CheckResult.{check_result}
use Rattle.jobs.specs.declared.Ends.{Ends}
use Rattle.jobs.specs.declared.Job.{Job}
use Rattle.jobs.specs.declared.Result.{Result}
use Rattle.faults.specs.Answer.{Leaves}
use Rattle.faults.specs.Checked.{Checked, status_of}
use Rattle.one_step.specs.OneStep.{gives_image, gives_move}
use Rattle.halving.specs.Halving.{halve_status}
use Rattle.run.specs.Job.{run_job}
use Rattle.job_form.specs.JobForm.{read_job}
use Rattle.job_form.specs.JobBytes.{job_bytes}
use Rattle.result_form.specs.ResultForm.{read_result}
use Rattle.result_form.specs.ResultShows.{show_result}
use Rattle.job_parts.specs.declared.Parts.{Parts}
use Rattle.job_parts.specs.Parts.{part_taken}
use Rattle.desk.specs.Desk.{job_status, job_text, result_status, result_text, solve_status, solve_text}
use Rattle.entries.specs.Numbers.{told, tell, or_else, short_buffer, first_given, job_rows, result_rows}
use Rattle.entries.specs.Numbers.{image_rows, decide_rows, halve_rows, parts_rows}
use Rattle.entries.proofs.Answered.{job-status, result-status, solve-status}
use Rattle.slips.specs.Slips.{found_in}
use Rattle.phrases.specs.Says.{sentence_max}
use Rattle.sentences.specs.Sentences.{slip_words, Explains}
use Rattle.entries.proofs.Explained as explained
use Rattle.entries.proofs.Faults as faults
use Rattle.entries.proofs.PartsTold as parts
use Rattle.entries.proofs.Texts as texts

-- ---- job_read::read_job, result_read::read_result
-- 1 for a text over 4,096 bytes (P10), and no other text; "Fault 1 comes first", with line 0
pub read-job-long : (t : List ℕ) → ((told (read_job t)).number ≡ 1) ↔ (text_max < length t)
read-job-long = texts.job-long

pub read-job-first : (t : List ℕ) → text_max < length t → told (read_job t) ≡ tell 1 0
read-job-first = texts.job-long-told

pub read-result-long : (t : List ℕ) → ((told (read_result t)).number ≡ 1) ↔ (text_max < length t)
read-result-long = texts.result-long

pub read-result-first : (t : List ℕ) → text_max < length t → told (read_result t) ≡ tell 1 0
read-result-first = texts.result-long-told

-- "Empty text: 2, line 1."
pub read-job-empty : told (read_job []) ≡ tell 2 1
read-job-empty = texts.job-empty

pub read-result-empty : told (read_result []) ≡ tell 2 1
read-result-empty = texts.result-empty

-- "A fault returns its number and a line counted from 1": every fault of a reader but 1
pub read-job-line : (t : List ℕ) → 1 < (told (read_job t)).number → 1 ≤ (told (read_job t)).line
read-job-line = texts.job-line

pub read-result-line : (t : List ℕ) → 1 < (told (read_result t)).number → 1 ≤ (told (read_result t)).line
read-result-line = texts.result-line

-- ---- run::run
-- "Values handed over without text get the same checks in the same line order": the first row of the table that is
-- given, 0 and 0 where none is
pub run : (j : Job) → told (run_job j) ≡ first_given (job_rows j)
run j = sym (faults.told-status (run_job j)) ∙ ap told (faults.run-status j) ∙ faults.job-first j

-- ---- one_step::image, one_step::decide
-- P7: "A box handed in is checked like a job's lo and hi, but with line 0", after the job's own
pub image : (j : Job) (x : Ends) → told (gives_image j x) ≡ first_given (image_rows j x)
image = faults.image-first

-- P7: "3 for that n, first; 4 beyond the image's range, then 5 for its ends crossed, after .. the box's own"
pub decide : (n : ℕ) (x k : Ends) → told (gives_move n x k) ≡ first_given (decide_rows n x k)
decide = faults.decide-first

-- ---- halving::halve, of a list of `room` numbers
-- P8: "Refusals: the job's own, then 8 for depth not 0 to 8, then 7 where the list can't hold two to the power of the
-- depth"
pub halve : (j : Job) (depth : ℤ) (room : ℕ) → told (halve_status j depth room) ≡ first_given (halve_rows j depth room)
halve = faults.halve-first

-- ---- job_parts::take
-- P1, a state carried between calls: 4, line 0, where a count, a length or a line number is beyond its limits
pub take_part : (p : Parts) (part : List ℕ) → told (part_taken p part).status ≡ first_given (parts_rows p)
take_part = parts.take-first

-- ---- job_write::write_job, result_write::write_result: any answer a that the contract allows, for the values' text
-- and a buffer with the bytes old
-- "When writing, faults of the values come before 7."
pub write-job : (j : Job) (old new : List ℕ) (a : Checked ℕ) → Leaves (check_job j) (job_bytes j) old new a
    → told a ≡ or_else (first_given (job_rows j)) (short_buffer old (job_bytes j))
write-job j old new a leaves = rw (← faults.job-first j) (faults.answer-told leaves)

pub write-result : (r : Result) (old new : List ℕ) (a : Checked ℕ) → Leaves (check_result r) (show_result r) old new a
    → told a ≡ or_else (first_given (result_rows r)) (short_buffer old (show_result r))
write-result r old new a leaves = rw (← faults.result-first r) (faults.answer-told leaves)

-- "7 | the written text is longer than the lent buffer": exactly then, where the values are right
pub write-job-short : (j : Job) (old new : List ℕ) (a : Checked ℕ) → Leaves (check_job j) (job_bytes j) old new a
    → ((told a).number ≡ 7) ↔ (((told (check_job j)).number ≡ 0) × (length old < length (job_bytes j)))
write-job-short j old new a leaves = faults.answer-seven leaves (faults.job-values j)

pub write-result-short : (r : Result) (old new : List ℕ) (a : Checked ℕ)
    → Leaves (check_result r) (show_result r) old new a
    → ((told a).number ≡ 7) ↔ (((told (check_result r)).number ≡ 0) × (length old < length (show_result r)))
write-result-short r old new a leaves = faults.answer-seven leaves (faults.result-values r)

-- ---- desk::solve, desk::rewrite_job, desk::rewrite_result: the reader's fault, and 7 exactly where it has none and
-- the buffer is too short
module _ (t old new : List ℕ) (a : Checked ℕ) where
  pub solve : Leaves (solve_status t) (solve_text t) old new a
      → told a ≡ or_else (told (read_job t)) (short_buffer old (solve_text t))
  solve leaves = faults.of-answer (read_job t) (rw (solve-status t) at leaves)

  pub solve-short : Leaves (solve_status t) (solve_text t) old new a
      → ((told a).number ≡ 7) ↔ (((told (read_job t)).number ≡ 0) × (length old < length (solve_text t)))
  solve-short leaves = faults.seven-exactly (read_job t) (rw (solve-status t) at leaves) (texts.job-not-seven t)

  pub rewrite-job : Leaves (job_status t) (job_text t) old new a
      → told a ≡ or_else (told (read_job t)) (short_buffer old (job_text t))
  rewrite-job leaves = faults.of-answer (read_job t) (rw (job-status t) at leaves)

  pub rewrite-job-short : Leaves (job_status t) (job_text t) old new a
      → ((told a).number ≡ 7) ↔ (((told (read_job t)).number ≡ 0) × (length old < length (job_text t)))
  rewrite-job-short leaves =
      faults.seven-exactly (read_job t) (rw (job-status t) at leaves) (texts.job-not-seven t)

  pub rewrite-result : Leaves (result_status t) (result_text t) old new a
      → told a ≡ or_else (told (read_result t)) (short_buffer old (result_text t))
  rewrite-result leaves = faults.of-answer (read_result t) (rw (result-status t) at leaves)

  pub rewrite-result-short : Leaves (result_status t) (result_text t) old new a
      → ((told a).number ≡ 7)
      ↔ (((told (read_result t)).number ≡ 0) × (length old < length (result_text t)))
  rewrite-result-short leaves =
      faults.seven-exactly (read_result t) (rw (result-status t) at leaves) (texts.result-not-seven t)

-- ---- sentences::explain_job, sentences::explain_result: no word where the reader finds no fault, and the buffer as it
-- was; a sentence where it finds one, whole in any buffer of 256 bytes, and what lies behind it as it was
module _ (t old new : List ℕ) (r : ℕ) where
  pub explain-job-none : Explains (found_in (status_of (read_job t))) old new r → (told (read_job t)).number ≡ 0
      → (r ≡ 0) × (new ≡ old)
  explain-job-none = explained.no-fault (read_job t)

  pub explain-job-some : Explains (found_in (status_of (read_job t))) old new r → 0 < (told (read_job t)).number
      → 0 < r
  explain-job-some = explained.a-fault (read_job t)

  pub explain-job-whole : (e : Explains (found_in (status_of (read_job t))) old new r) → sentence_max ≤ length old
      → new ≡ slip_words e.slip ++ drop r old
  explain-job-whole = explained.whole

  pub explain-result-none : Explains (found_in (status_of (read_result t))) old new r
      → (told (read_result t)).number ≡ 0 → (r ≡ 0) × (new ≡ old)
  explain-result-none = explained.no-fault (read_result t)

  pub explain-result-some : Explains (found_in (status_of (read_result t))) old new r
      → 0 < (told (read_result t)).number → 0 < r
  explain-result-some = explained.a-fault (read_result t)

  pub explain-result-whole : (e : Explains (found_in (status_of (read_result t))) old new r) → sentence_max ≤ length old
      → new ≡ slip_words e.slip ++ drop r old
  explain-result-whole = explained.whole
