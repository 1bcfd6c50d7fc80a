-- What the program of before request P10 says of a text: the same lines, with document 01's own limits of n and of
-- bytes. What all other lines say, their numbers and their faults are those of `job_form_of` and `result_form_of`, also
-- where a later request has changed them: P10 speaks of the two limits alone.
use Rattle.std.specs.Prelude.{ℕ, List, leb}
use Rattle.sizes.specs.Sizes.{n_max}
use Rattle.text.specs.Keys.{body_of}
use Rattle.text.specs.Words.{n_key, lo_key}
use Rattle.faults.specs.declared.Fault.{Fault}
use Rattle.faults.specs.Checked.{Finding, Found, Checked}
use Rattle.faults.specs.Checks.{bad_unless, first_of}
use Rattle.term_checks.specs.Ranges.{one_to}
use Rattle.checks.specs.Checks.{low_check}
use Rattle.reading.specs.Results.{after, passing}
use Rattle.reading.specs.Lines.{Next, Form, read}
use Rattle.reading.specs.NumberLines.{list_line}
use Rattle.reading.specs.declared.Listed.{Listed}
use Rattle.reading.specs.Narrower.{limited}
use Rattle.jobs.specs.declared.Job.{Job}
use Rattle.jobs.specs.declared.JobLine.{JobLine}
use Rattle.jobs.specs.declared.Result.{Result}
use Rattle.jobs.specs.declared.ResultLine.{ResultLine}
use Rattle.jobs.specs.Lines.{after_n}
use Rattle.jobs.specs.Parts.{with_unknowns}
use Rattle.lines.specs.Answered.{answered}
use Rattle.lines.specs.Lines.{digit_is}
use Rattle.job_form.specs.JobForm.{job_says, job_form_of}
use Rattle.result_form.specs.ResultForm.{with_low, leaves, result_says, result_form_of}

-- "n: 1 to 4"
abbrev pub n_old : ℕ
n_old = 4

-- "Text: at most 2,048 bytes"
abbrev pub text_old : ℕ
text_old = 2048

-- ---- a job

-- n=: "n not 1 to 4" 3
abbrev pub old_unknowns : ℕ → Finding
old_unknowns n = bad_unless (one_to n_old n) Fault.Unknowns

unfoldable pub old_unknowns_of : List ℕ → Found ℕ
old_unknowns_of l = passing (digit_is (body_of n_key l)) old_unknowns

unfoldable pub old_job_says : JobLine → Job → List ℕ → Found (Next JobLine Job)
old_job_says JobLine.Number j l = job_says JobLine.Number j l
old_job_says JobLine.Kind j l = job_says JobLine.Kind j l
old_job_says JobLine.Unknowns j l =
    after (old_unknowns_of l) (λ n. record { kind = after_n j.head.kind; value = with_unknowns j n })
old_job_says JobLine.Pin j l = job_says JobLine.Pin j l
old_job_says JobLine.Lo j l = job_says JobLine.Lo j l
old_job_says JobLine.Hi j l = job_says JobLine.Hi j l
old_job_says JobLine.Inv j l = job_says JobLine.Inv j l
old_job_says JobLine.Steps j l = job_says JobLine.Steps j l
old_job_says (JobLine.System i) j l = job_says (JobLine.System i) j l
old_job_says JobLine.End j l = job_says JobLine.End j l

abbrev pub old_job_form : Form Fault JobLine Job
old_job_form = limited job_form_of old_job_says text_old

unfoldable pub old_read_job : List ℕ → Checked Job
old_read_job t = answered (read old_job_form t)

-- ---- a result

-- "an empty list is fault 2, one of over 4 numbers fault 3"
abbrev pub old_count : ℕ → Finding
old_count n = first_of (bad_unless (leb 1 n) Fault.Spelling) (bad_unless (leb n n_old) Fault.Unknowns)

abbrev pub old_counted : Listed → Finding
old_counted x = first_of (old_count x.count) (low_check x.count x.row)

-- lo=: "the length of the `lo` list is n"
unfoldable pub old_low_of : List ℕ → Found Listed
old_low_of l = passing (list_line Fault.Spelling lo_key n_max l) old_counted

unfoldable pub old_result_says : ResultLine → Result → List ℕ → Found (Next ResultLine Result)
old_result_says ResultLine.Number v l = result_says ResultLine.Number v l
old_result_says ResultLine.Visit v l = result_says ResultLine.Visit v l
old_result_says ResultLine.Verdict v l = result_says ResultLine.Verdict v l
old_result_says ResultLine.Steps v l = result_says ResultLine.Steps v l
old_result_says ResultLine.Lo v l = after (old_low_of l) (λ x. leaves ResultLine.Hi (with_low v x))
old_result_says ResultLine.Hi v l = result_says ResultLine.Hi v l
old_result_says ResultLine.End v l = result_says ResultLine.End v l

abbrev pub old_result_form : Form Fault ResultLine Result
old_result_form = limited result_form_of old_result_says text_old

unfoldable pub old_read_result : List ℕ → Checked Result
old_read_result t = answered (read old_result_form t)
