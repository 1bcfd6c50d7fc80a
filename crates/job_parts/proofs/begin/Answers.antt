-- `job_parts::begin` meets its contract.
use Rattle.job_parts.proofs.begin.Goals as goal

pub returns : goal.returns
returns c = rw c.nothing_read.ensures
