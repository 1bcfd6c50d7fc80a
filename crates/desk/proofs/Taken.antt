-- What a reader took passes the check of its values.
use Prim.Native.Nat.{ℕ}
use mathlib.Core.Path.{◌≡◌, sym}
use mathlib.Core.List.{List}
use Rattle.jobs.specs.declared.Job.{Job}
use Rattle.jobs.specs.declared.Result.{Result}
use Rattle.checks.specs.Checks.{check_job}
use Rattle.checks.specs.CheckResult.{check_result}
use Rattle.job_form.specs.JobForm.{read_job}
use Rattle.job_form.proofs.Trips as job
use Rattle.result_form.specs.ResultForm.{read_result}
use Rattle.result_form.proofs.Trips as result
use Rattle.std.specs.Prelude.{Ok}

module _ (t : List ℕ) where
  pub job-taken : {j : Job} → Ok j ≡ read_job t → check_job j ≡ Ok tt
  job-taken {j} e = (job.write_read t j (sym e)).1

  pub result-taken : {r : Result} → Ok r ≡ read_result t → check_result r ≡ Ok tt
  result-taken {r} e = (result.write_read t r (sym e)).1
