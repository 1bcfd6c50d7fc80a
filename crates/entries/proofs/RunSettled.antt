-- "For every input, faults included, each public function's contract settles the result": any two answers that the
-- contract of `run::run` allows are equal. `Post` is the contract itself, as the check reads it from the source.
use mathlib.Core.Path.{◌≡◌, sym, ◌∙◌}
use denote.Triple.Clauses.{AtExit}
use borrow.Fn.Kinds.{Dens, res_t, ended_of}
use contract.Lifetimes.{Lfts}
use Rattle.run.proofs.run.Reads as run
use Rattle.run.proofs.run.Kinds as run-kinds

pub run_settled : (κs : Lfts 0) (a : Dens κs run-kinds.ps) (r r' : (res_t run-kinds.r κs).Denot)
    (s s' : AtExit (ended_of 0 run-kinds.ps run-kinds.r) κs)
    → run.Post κs a r s → run.Post κs a r' s' → r ≡ r'
run_settled κs a r r' s s' p q = p ∙ sym q
