-- The same of the desk's entries, with every byte of the lent buffer.
use mathlib.Core.Path.{◌≡◌}
use denote.Triple.Clauses.{AtExit}
use borrow.Fn.Kinds.{Dens, res_t, ended_of}
use contract.Lifetimes.{Lfts}
use Rattle.faults.proofs.Answer.{settled}
use Rattle.desk.proofs.solve.Reads as solve
use Rattle.desk.proofs.solve.Kinds as solve-kinds
use Rattle.desk.proofs.rewrite_job.Reads as job
use Rattle.desk.proofs.rewrite_job.Kinds as job-kinds
use Rattle.desk.proofs.rewrite_result.Reads as result
use Rattle.desk.proofs.rewrite_result.Kinds as result-kinds

pub solve-settled : (κs : Lfts 2) (a : Dens κs solve-kinds.ps) (r r' : (res_t solve-kinds.r κs).Denot)
    (s s' : AtExit (ended_of 2 solve-kinds.ps solve-kinds.r) κs)
    → solve.Post κs a r s → solve.Post κs a r' s' → (r ≡ r') × (s.1.0.now ≡ s'.1.0.now)
solve-settled κs a r r' s s' p q = settled p q

pub job-settled : (κs : Lfts 2) (a : Dens κs job-kinds.ps) (r r' : (res_t job-kinds.r κs).Denot)
    (s s' : AtExit (ended_of 2 job-kinds.ps job-kinds.r) κs)
    → job.Post κs a r s → job.Post κs a r' s' → (r ≡ r') × (s.1.0.now ≡ s'.1.0.now)
job-settled κs a r r' s s' p q = settled p q

pub result-settled : (κs : Lfts 2) (a : Dens κs result-kinds.ps) (r r' : (res_t result-kinds.r κs).Denot)
    (s s' : AtExit (ended_of 2 result-kinds.ps result-kinds.r) κs)
    → result.Post κs a r s → result.Post κs a r' s' → (r ≡ r') × (s.1.0.now ≡ s'.1.0.now)
result-settled κs a r r' s s' p q = settled p q
