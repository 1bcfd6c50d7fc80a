-- Request P10, "Six unknowns". Only statements, each proved by one line from the files beside this one. `old_read_job`
-- and `old_read_result` are what the program of before the request says of a text; Fault.LongText is 1, Fault.Unknowns
-- 3. What is written (`job_bytes`, `show_result`) names no limit. That 1 comes exactly for a text over `text_max` is in
-- entries/proofs/Demand1.antt.
use Prim.Native.Nat.{ℕ, ◌+◌, ◌*◌, ◌^◌, ◌≤◌, ◌<◌}
use mathlib.Core.Path.{◌≡◌, refl}
use mathlib.Core.List.{List}
use mathlib.Core.Logic.{◌⊎◌}
use lib.ListN.{length}
use Rattle.sizes.specs.Sizes.{mark, n_max, text_max, terms_max, degree_max, steps_max, number_max}
use Rattle.sizes.specs.Sizes.{end_max, image_max, entry_max, depth_max}
use Rattle.sizes.specs.Bounds.{value_max, slope_max, b_max, z_max}
use Rattle.sizes.proofs.Sums as sums
use Rattle.text.specs.Words.{n_key}
use Rattle.faults.specs.declared.Fault.{Fault}
use Rattle.faults.specs.Checked.{refused, status_of}
use Rattle.jobs.specs.declared.Term.{Term}
use Rattle.jobs.specs.declared.Job.{Job}
use Rattle.jobs.specs.declared.Result.{Result}
use Rattle.checks.specs.CheckResult.{count_check}
use Rattle.term_write.specs.ShowTerms.{show_exponents}
use Rattle.term_write.proofs.Terms.{exponents-long}
use Rattle.checks.specs.Answered.{job_in}
use Rattle.checks.specs.Answered.{result_in}
use Rattle.lines.specs.Lines.{unknowns_of}
use Rattle.lines.specs.Texts.{count_text}
use Rattle.job_form.specs.JobForm.{read_job}
use Rattle.job_form.specs.JobBytes.{job_bytes}
use Rattle.result_form.specs.ResultForm.{read_result}
use Rattle.result_form.specs.ResultShows.{show_result}
use Rattle.old_texts.specs.Old.{old_unknowns_of, old_read_job, old_count, old_read_result}
use Rattle.old_texts.proofs.Lines as lines
use Rattle.old_texts.proofs.Jobs as jobs
use Rattle.old_texts.proofs.Results as results
use Rattle.std.specs.Prelude.{Ok, Err}

-- "Raise n to 6 and the text to 4,096 bytes, for jobs and results."
pub raised : (n_max ≡ 6) × (text_max ≡ 4096)
raised = (refl, refl)

-- "All other sizes stay;"
pub others-stay : (mark ≡ 65536) × (terms_max ≡ 16) × (degree_max ≡ 3) × (steps_max ≡ 1000) × (number_max ≡ 999999999)
    × (end_max ≡ 262144) × (image_max ≡ 2 ^ 46) × (entry_max ≡ 4194304) × (depth_max ≡ 8)
others-stay = (refl, refl, refl, refl, refl, refl, refl, refl, refl)

-- "six products still sum inside 64 bits.": those of D, of B with its diagonal, and of E, with room to be rounded up
pub d-fits : 6 * (entry_max * value_max) ≤ 2 ^ 62
d-fits = sums.d-room

pub b-fits : mark * mark + 6 * (entry_max * slope_max) ≤ 2 ^ 62
b-fits = sums.b-room

pub e-fits : 6 * (b_max * z_max) ≤ 2 ^ 62
e-fits = sums.e-room

-- "Stored texts of n up to 4 read as before and are written byte for byte the same,": what the old program reads is
-- read with the same values, and these are written as they stood;
pub job-as-before : (t : List ℕ) (j : Job) → old_read_job t ≡ Ok j
    → (read_job t ≡ Ok j) × (job_bytes j ≡ t)
job-as-before = jobs.as_before

pub result-as-before : (t : List ℕ) (r : Result) → old_read_result t ≡ Ok r
    → (read_result t ≡ Ok r) × (show_result r ≡ t)
result-as-before = results.as_before

-- "with four-digit exponents for four unknowns."
pub digits-of-four : (t : Term) → length (show_exponents 4 t) ≡ 4
digits-of-four = exponents-long 4

-- "The old program answers 3 or 1 for new texts": a right text of 5 or 6 unknowns has 3 from it, on the line of n, or
-- of the list whose length is n,
pub new-job : (t : List ℕ) → status_of (read_job t) ≡ Ok tt → 4 < (job_in (read_job t)).head.n
    → old_read_job t ≡ refused Fault.Unknowns 3
new-job = jobs.right_new

pub new-result : (t : List ℕ) → status_of (read_result t) ≡ Ok tt → 4 < (result_in (read_result t)).n
    → old_read_result t ≡ refused Fault.Unknowns 5
new-result = results.right_new

-- "and never a wrong job.": of every text it says the same, or 3 on that line, or 1;
pub never-wrong-job : (t : List ℕ)
    → (old_read_job t ≡ read_job t)
    ⊎ ((old_read_job t ≡ refused Fault.Unknowns 3)
    ⊎ (old_read_job t ≡ refused Fault.LongText 0))
never-wrong-job = jobs.same_or

pub never-wrong-result : (t : List ℕ)
    → (old_read_result t ≡ read_result t)
    ⊎ ((old_read_result t ≡ refused Fault.Unknowns 5)
    ⊎ (old_read_result t ≡ refused Fault.LongText 0))
never-wrong-result = results.same_or

-- and where it answers neither 1 nor 3, status, line and values are the same
pub job-otherwise : (t : List ℕ) → ((n : ℕ) → status_of (old_read_job t) ≡ refused Fault.LongText n → ⊥)
    → ((n : ℕ) → status_of (old_read_job t) ≡ refused Fault.Unknowns n → ⊥) → read_job t ≡ old_read_job t
job-otherwise = jobs.same_otherwise

pub result-otherwise : (t : List ℕ) → ((n : ℕ) → status_of (old_read_result t) ≡ refused Fault.LongText n → ⊥)
    → ((n : ℕ) → status_of (old_read_result t) ≡ refused Fault.Unknowns n → ⊥) → read_result t ≡ old_read_result t
result-otherwise = results.same_otherwise

-- "Texts of 2,049 to 4,096 bytes, and n of 5 and 6, lose faults 1 and 3;": a line of n, and a list of n numbers, had 3
-- and is taken
pub n-had : (n : ℕ) → 4 < n → n ≤ 6 → old_unknowns_of (count_text n_key n) ≡ Err Fault.Unknowns
n-had = lines.n-had

pub n-taken : (n : ℕ) → 4 < n → n ≤ 6 → unknowns_of (count_text n_key n) ≡ Ok n
n-taken = lines.n-taken

pub count-had : (n : ℕ) → 4 < n → n ≤ 6 → old_count n ≡ Err Fault.Unknowns
count-had = lines.count-had

pub count-taken : (n : ℕ) → 4 < n → n ≤ 6 → count_check n ≡ Ok tt
count-taken = lines.count-taken
