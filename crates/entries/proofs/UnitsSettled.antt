-- The same of the answer in units.
use mathlib.Core.Path.{◌≡◌}
use denote.Triple.Clauses.{AtExit}
use borrow.Fn.Kinds.{Dens, res_t, ended_of}
use contract.Lifetimes.{Lfts}
use Rattle.faults.proofs.Answer.{settled}
use Rattle.units.proofs.show.Reads as show
use Rattle.units.proofs.show.Kinds as show-kinds

pub show-settled : (κs : Lfts 2) (a : Dens κs show-kinds.ps) (r r' : (res_t show-kinds.r κs).Denot)
    (s s' : AtExit (ended_of 2 show-kinds.ps show-kinds.r) κs)
    → show.Post κs a r s → show.Post κs a r' s' → (r ≡ r') × (s.1.0.now ≡ s'.1.0.now)
show-settled κs a r r' s s' p q = settled p q
