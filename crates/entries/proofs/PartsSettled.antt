-- The same of the entries of a text in parts, those for C among them: any two answers are equal, the state that is
-- handed back with them; of those that write, every byte of the lent buffer too.
use mathlib.Core.Path.{◌≡◌, sym, ◌∙◌}
use denote.Triple.Clauses.{AtExit}
use borrow.Fn.Kinds.{Dens, res_t, ended_of}
use contract.Lifetimes.{Lfts}
use Rattle.faults.proofs.Answer.{settled}
use Rattle.c_answers.proofs.Gives as gives
use Rattle.job_parts.proofs.begin.Reads as begin
use Rattle.job_parts.proofs.begin.Kinds as begin-kinds
use Rattle.job_parts.proofs.take.Reads as take
use Rattle.job_parts.proofs.take.Kinds as take-kinds
use Rattle.job_parts.proofs.end.Reads as end
use Rattle.job_parts.proofs.end.Kinds as end-kinds
use Rattle.parts_end.proofs.end_status.Reads as end-status
use Rattle.parts_end.proofs.end_status.Kinds as end-status-kinds
use Rattle.parts_end.proofs.end_job.Reads as end-job
use Rattle.parts_end.proofs.end_job.Kinds as end-job-kinds
use Rattle.parts_end.proofs.end_solve.Reads as end-solve
use Rattle.parts_end.proofs.end_solve.Kinds as end-solve-kinds
use Rattle.floodrafter_c.proofs.parts.floodrafter_begin.Reads as c-begin
use Rattle.floodrafter_c.proofs.parts.floodrafter_begin.Kinds as c-begin-kinds
use Rattle.floodrafter_c.proofs.parts.floodrafter_take.Reads as c-take
use Rattle.floodrafter_c.proofs.parts.floodrafter_take.Kinds as c-take-kinds
use Rattle.floodrafter_c.proofs.parts.floodrafter_end_check.Reads as c-end-check
use Rattle.floodrafter_c.proofs.parts.floodrafter_end_check.Kinds as c-end-check-kinds
use Rattle.floodrafter_c.proofs.parts.floodrafter_end_job.Reads as c-end-job
use Rattle.floodrafter_c.proofs.parts.floodrafter_end_job.Kinds as c-end-job-kinds
use Rattle.floodrafter_c.proofs.parts.floodrafter_end_solve.Reads as c-end-solve
use Rattle.floodrafter_c.proofs.parts.floodrafter_end_solve.Kinds as c-end-solve-kinds

-- ---- job_parts

pub begin-settled : (κs : Lfts 0) (a : Dens κs begin-kinds.ps) (r r' : (res_t begin-kinds.r κs).Denot)
    (s s' : AtExit (ended_of 0 begin-kinds.ps begin-kinds.r) κs)
    → begin.Post κs a r s → begin.Post κs a r' s' → r ≡ r'
begin-settled κs a r r' s s' p q = p ∙ sym q

pub take-settled : (κs : Lfts 1) (a : Dens κs take-kinds.ps) (r r' : (res_t take-kinds.r κs).Denot)
    (s s' : AtExit (ended_of 1 take-kinds.ps take-kinds.r) κs)
    → take.Post κs a r s → take.Post κs a r' s' → r ≡ r'
take-settled κs a r r' s s' p q = p ∙ sym q

pub end-settled : (κs : Lfts 0) (a : Dens κs end-kinds.ps) (r r' : (res_t end-kinds.r κs).Denot)
    (s s' : AtExit (ended_of 0 end-kinds.ps end-kinds.r) κs)
    → end.Post κs a r s → end.Post κs a r' s' → r ≡ r'
end-settled κs a r r' s s' p q = p ∙ sym q

-- ---- parts_end

pub end-status-settled : (κs : Lfts 0) (a : Dens κs end-status-kinds.ps) (r r' : (res_t end-status-kinds.r κs).Denot)
    (s s' : AtExit (ended_of 0 end-status-kinds.ps end-status-kinds.r) κs)
    → end-status.Post κs a r s → end-status.Post κs a r' s' → r ≡ r'
end-status-settled κs a r r' s s' p q = p ∙ sym q

pub end-job-settled : (κs : Lfts 1) (a : Dens κs end-job-kinds.ps) (r r' : (res_t end-job-kinds.r κs).Denot)
    (s s' : AtExit (ended_of 1 end-job-kinds.ps end-job-kinds.r) κs)
    → end-job.Post κs a r s → end-job.Post κs a r' s' → (r ≡ r') × (s.1.0.now ≡ s'.1.0.now)
end-job-settled κs a r r' s s' p q = settled p q

pub end-solve-settled : (κs : Lfts 1) (a : Dens κs end-solve-kinds.ps) (r r' : (res_t end-solve-kinds.r κs).Denot)
    (s s' : AtExit (ended_of 1 end-solve-kinds.ps end-solve-kinds.r) κs)
    → end-solve.Post κs a r s → end-solve.Post κs a r' s' → (r ≡ r') × (s.1.0.now ≡ s'.1.0.now)
end-solve-settled κs a r r' s s' p q = settled p q

-- ---- for C

pub c-begin-settled : (κs : Lfts 0) (a : Dens κs c-begin-kinds.ps) (r r' : (res_t c-begin-kinds.r κs).Denot)
    (s s' : AtExit (ended_of 0 c-begin-kinds.ps c-begin-kinds.r) κs)
    → c-begin.Post κs a r s → c-begin.Post κs a r' s' → r ≡ r'
c-begin-settled κs a r r' s s' p q = p ∙ sym q

pub c-take-settled : (κs : Lfts 1) (a : Dens κs c-take-kinds.ps) (r r' : (res_t c-take-kinds.r κs).Denot)
    (s s' : AtExit (ended_of 1 c-take-kinds.ps c-take-kinds.r) κs)
    → c-take.Post κs a r s → c-take.Post κs a r' s' → r ≡ r'
c-take-settled κs a r r' s s' p q = p ∙ sym q

pub c-end-check-settled : (κs : Lfts 0) (a : Dens κs c-end-check-kinds.ps) (r r' : (res_t c-end-check-kinds.r κs).Denot)
    (s s' : AtExit (ended_of 0 c-end-check-kinds.ps c-end-check-kinds.r) κs)
    → c-end-check.Post κs a r s → c-end-check.Post κs a r' s' → r ≡ r'
c-end-check-settled κs a r r' s s' p q = p ∙ sym q

pub c-end-job-settled : (κs : Lfts 1) (a : Dens κs c-end-job-kinds.ps) (r r' : (res_t c-end-job-kinds.r κs).Denot)
    (s s' : AtExit (ended_of 1 c-end-job-kinds.ps c-end-job-kinds.r) κs)
    → c-end-job.Post κs a r s → c-end-job.Post κs a r' s' → (r ≡ r') × (s.1.0.now ≡ s'.1.0.now)
c-end-job-settled κs a r r' s s' p q = gives.settled p q

pub c-end-solve-settled : (κs : Lfts 1) (a : Dens κs c-end-solve-kinds.ps) (r r' : (res_t c-end-solve-kinds.r κs).Denot)
    (s s' : AtExit (ended_of 1 c-end-solve-kinds.ps c-end-solve-kinds.r) κs)
    → c-end-solve.Post κs a r s → c-end-solve.Post κs a r' s' → (r ≡ r') × (s.1.0.now ≡ s'.1.0.now)
c-end-solve-settled κs a r r' s s' p q = gives.settled p q
