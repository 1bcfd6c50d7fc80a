-- What is answered where the step is shown: of values, and of a job text. A fault "writes nowhere".
use Rattle.std.specs.Prelude.{ℕ, List}
use Rattle.faults.specs.Checks.{and_then}
use Rattle.checks.specs.Answered.{job_in}
use Rattle.job_form.specs.JobForm.{read_job}
use Rattle.one_step.specs.OneStep.{image_status, gives_image, image_in, gives_move, decided_in}
use Rattle.faults.specs.Checked.{Status, status_of}
use Rattle.jobs.specs.declared.Ends.{Ends}
use Rattle.jobs.specs.declared.Job.{Job}
use Rattle.step_text.specs.Lines.{image_lines, move_lines, step_lines}

-- ---- of values

-- K of a job and a box
unfoldable pub image_text : Job → Ends → List ℕ
image_text j x = image_lines j.head.n (image_in (gives_image j x))

-- the same, and what it decides
unfoldable pub step_text_of : Job → Ends → List ℕ
step_text_of j x =
    step_lines j.head.n (image_in (gives_image j x)) (decided_in (gives_move j.head.n x (image_in (gives_image j x))))

-- what X and K decide
unfoldable pub decide_text : ℕ → Ends → Ends → List ℕ
decide_text n x k = move_lines n (decided_in (gives_move n x k))

-- ---- of a job text

-- with a box handed in: "the job's and the box's own" faults
unfoldable pub box_status : List ℕ → Ends → Status
box_status t x = and_then (status_of (read_job t)) (image_status (job_in (read_job t)) x)

unfoldable pub box_image : List ℕ → Ends → List ℕ
box_image t x = image_text (job_in (read_job t)) x

-- with its own starting box
unfoldable pub own_status : List ℕ → Status
own_status t = and_then (status_of (read_job t)) (image_status (job_in (read_job t)) (job_in (read_job t)).ends)

unfoldable pub own_image : List ℕ → List ℕ
own_image t = image_text (job_in (read_job t)) (job_in (read_job t)).ends

unfoldable pub own_step : List ℕ → List ℕ
own_step t = step_text_of (job_in (read_job t)) (job_in (read_job t)).ends
