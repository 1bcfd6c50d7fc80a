-- The same of both readers.
use mathlib.Core.Path.{◌≡◌, sym, ◌∙◌}
use denote.Triple.Clauses.{AtExit}
use borrow.Fn.Kinds.{Dens, res_t, ended_of}
use contract.Lifetimes.{Lfts}
use Rattle.job_read.proofs.read_job.Reads as job
use Rattle.job_read.proofs.read_job.Kinds as job-kinds
use Rattle.result_read.proofs.read_result.Reads as result
use Rattle.result_read.proofs.read_result.Kinds as result-kinds

pub job-settled : (κs : Lfts 1) (a : Dens κs job-kinds.ps) (r r' : (res_t job-kinds.r κs).Denot)
    (s s' : AtExit (ended_of 1 job-kinds.ps job-kinds.r) κs)
    → job.Post κs a r s → job.Post κs a r' s' → r ≡ r'
job-settled κs a r r' s s' p q = p ∙ sym q

pub result-settled : (κs : Lfts 1) (a : Dens κs result-kinds.ps) (r r' : (res_t result-kinds.r κs).Denot)
    (s s' : AtExit (ended_of 1 result-kinds.ps result-kinds.r) κs)
    → result.Post κs a r s → result.Post κs a r' s' → r ≡ r'
result-settled κs a r r' s s' p q = p ∙ sym q
