-- The same of the entries for C: of those that only check or show, any two answers are equal; of those that write,
-- every byte of the lent buffer too.
use mathlib.Core.Path.{◌≡◌, sym, ◌∙◌}
use denote.Triple.Clauses.{AtExit}
use borrow.Fn.Kinds.{Dens, res_t, ended_of}
use contract.Lifetimes.{Lfts}
use Rattle.c_answers.proofs.Gives.{settled}
use Rattle.floodrafter_c.proofs.floodrafter_solve.Reads as solve
use Rattle.floodrafter_c.proofs.floodrafter_solve.Kinds as solve-kinds
use Rattle.floodrafter_c.proofs.floodrafter_rewrite_job.Reads as job
use Rattle.floodrafter_c.proofs.floodrafter_rewrite_job.Kinds as job-kinds
use Rattle.floodrafter_c.proofs.floodrafter_rewrite_result.Reads as result
use Rattle.floodrafter_c.proofs.floodrafter_rewrite_result.Kinds as result-kinds
use Rattle.floodrafter_c.proofs.floodrafter_check_job.Reads as check-job
use Rattle.floodrafter_c.proofs.floodrafter_check_job.Kinds as check-job-kinds
use Rattle.floodrafter_c.proofs.floodrafter_check_result.Reads as check-result
use Rattle.floodrafter_c.proofs.floodrafter_check_result.Kinds as check-result-kinds
use Rattle.floodrafter_c.proofs.steps.floodrafter_start.Reads as start
use Rattle.floodrafter_c.proofs.steps.floodrafter_start.Kinds as start-kinds
use Rattle.floodrafter_c.proofs.steps.floodrafter_image.Reads as image
use Rattle.floodrafter_c.proofs.steps.floodrafter_image.Kinds as image-kinds
use Rattle.floodrafter_c.proofs.steps.floodrafter_decide.Reads as decide
use Rattle.floodrafter_c.proofs.steps.floodrafter_decide.Kinds as decide-kinds

pub solve-settled : (κs : Lfts 2) (a : Dens κs solve-kinds.ps) (r r' : (res_t solve-kinds.r κs).Denot)
    (s s' : AtExit (ended_of 2 solve-kinds.ps solve-kinds.r) κs)
    → solve.Post κs a r s → solve.Post κs a r' s' → (r ≡ r') × (s.1.0.now ≡ s'.1.0.now)
solve-settled κs a r r' s s' p q = settled p q

pub job-settled : (κs : Lfts 2) (a : Dens κs job-kinds.ps) (r r' : (res_t job-kinds.r κs).Denot)
    (s s' : AtExit (ended_of 2 job-kinds.ps job-kinds.r) κs)
    → job.Post κs a r s → job.Post κs a r' s' → (r ≡ r') × (s.1.0.now ≡ s'.1.0.now)
job-settled κs a r r' s s' p q = settled p q

pub result-settled : (κs : Lfts 2) (a : Dens κs result-kinds.ps) (r r' : (res_t result-kinds.r κs).Denot)
    (s s' : AtExit (ended_of 2 result-kinds.ps result-kinds.r) κs)
    → result.Post κs a r s → result.Post κs a r' s' → (r ≡ r') × (s.1.0.now ≡ s'.1.0.now)
result-settled κs a r r' s s' p q = settled p q

pub check-job-settled : (κs : Lfts 1) (a : Dens κs check-job-kinds.ps) (r r' : (res_t check-job-kinds.r κs).Denot)
    (s s' : AtExit (ended_of 1 check-job-kinds.ps check-job-kinds.r) κs)
    → check-job.Post κs a r s → check-job.Post κs a r' s' → r ≡ r'
check-job-settled κs a r r' s s' p q = p ∙ sym q

pub check-result-settled : (κs : Lfts 1) (a : Dens κs check-result-kinds.ps)
    (r r' : (res_t check-result-kinds.r κs).Denot)
    (s s' : AtExit (ended_of 1 check-result-kinds.ps check-result-kinds.r) κs)
    → check-result.Post κs a r s → check-result.Post κs a r' s' → r ≡ r'
check-result-settled κs a r r' s s' p q = p ∙ sym q

pub start-settled : (κs : Lfts 1) (a : Dens κs start-kinds.ps) (r r' : (res_t start-kinds.r κs).Denot)
    (s s' : AtExit (ended_of 1 start-kinds.ps start-kinds.r) κs)
    → start.Post κs a r s → start.Post κs a r' s' → r ≡ r'
start-settled κs a r r' s s' p q = p ∙ sym q

pub image-settled : (κs : Lfts 1) (a : Dens κs image-kinds.ps) (r r' : (res_t image-kinds.r κs).Denot)
    (s s' : AtExit (ended_of 1 image-kinds.ps image-kinds.r) κs)
    → image.Post κs a r s → image.Post κs a r' s' → r ≡ r'
image-settled κs a r r' s s' p q = p ∙ sym q

pub decide_settled : (κs : Lfts 0) (a : Dens κs decide-kinds.ps) (r r' : (res_t decide-kinds.r κs).Denot)
    (s s' : AtExit (ended_of 0 decide-kinds.ps decide-kinds.r) κs)
    → decide.Post κs a r s → decide.Post κs a r' s' → r ≡ r'
decide_settled κs a r r' s s' p q = p ∙ sym q
