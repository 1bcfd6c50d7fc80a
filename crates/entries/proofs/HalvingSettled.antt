-- The same of halving, of values, of a job text and for C: any two answers are equal, and so is every number of the
-- lent list; and of what batch's line says of it.
use mathlib.Core.Path.{◌≡◌, sym, ◌∙◌}
use denote.Triple.Clauses.{AtExit}
use borrow.Fn.Kinds.{Dens, res_t, ended_of}
use contract.Lifetimes.{Lfts}
use Rattle.halving.proofs.halve.Reads as halve
use Rattle.halving.proofs.halve.Kinds as halve-kinds
use Rattle.listing.proofs.list_text.Reads as list-text
use Rattle.listing.proofs.list_text.Kinds as list-text-kinds
use Rattle.answers.proofs.deep_asked.Reads as deep
use Rattle.answers.proofs.deep_asked.Kinds as deep-kinds
use Rattle.floodrafter_c.proofs.listed.floodrafter_halve.Reads as c-halve
use Rattle.floodrafter_c.proofs.listed.floodrafter_halve.Kinds as c-halve-kinds

pub halve-settled : (κs : Lfts 1) (a : Dens κs halve-kinds.ps) (r r' : (res_t halve-kinds.r κs).Denot)
    (s s' : AtExit (ended_of 1 halve-kinds.ps halve-kinds.r) κs)
    → halve.Post κs a r s → halve.Post κs a r' s' → (r ≡ r') × (s.1.1.0.now ≡ s'.1.1.0.now)
halve-settled κs a r r' s s' p q = (p.answer ∙ sym q.answer, p.list ∙ sym q.list)

pub list-text-settled : (κs : Lfts 2) (a : Dens κs list-text-kinds.ps) (r r' : (res_t list-text-kinds.r κs).Denot)
    (s s' : AtExit (ended_of 2 list-text-kinds.ps list-text-kinds.r) κs)
    → list-text.Post κs a r s → list-text.Post κs a r' s' → (r ≡ r') × (s.1.1.0.now ≡ s'.1.1.0.now)
list-text-settled κs a r r' s s' p q = (p.answer ∙ sym q.answer, p.list ∙ sym q.list)

pub deep-settled : (κs : Lfts 1) (a : Dens κs deep-kinds.ps) (r r' : (res_t deep-kinds.r κs).Denot)
    (s s' : AtExit (ended_of 1 deep-kinds.ps deep-kinds.r) κs) → deep.Post κs a r s → deep.Post κs a r' s' → r ≡ r'
deep-settled κs a r r' s s' p q = p.is ∙ sym q.is

pub c-halve-settled : (κs : Lfts 2) (a : Dens κs c-halve-kinds.ps) (r r' : (res_t c-halve-kinds.r κs).Denot)
    (s s' : AtExit (ended_of 2 c-halve-kinds.ps c-halve-kinds.r) κs)
    → c-halve.Post κs a r s → c-halve.Post κs a r' s' → (r ≡ r') × (s.1.1.0.now ≡ s'.1.1.0.now)
c-halve-settled κs a r r' s s' p q = (p.answer ∙ sym q.answer, p.list ∙ sym q.list)
