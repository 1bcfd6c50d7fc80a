-- The value that an answer has. Beside a refusal "all is zero".
use Rattle.faults.specs.Checked.{Checked, value_or}
use Rattle.jobs.specs.declared.Job.{Job}
use Rattle.jobs.specs.declared.Result.{Result}
use Rattle.jobs.specs.Zero.{no_job, no_result}

abbrev pub job_in : Checked Job → Job
job_in = value_or no_job

abbrev pub result_in : Checked Result → Result
result_in = value_or no_result
