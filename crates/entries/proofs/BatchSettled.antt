-- The same of batch: what is asked, what of it is at hand, what it is answered with and how that is told, with
-- every byte of the lent buffer and of the table of rooms.
use mathlib.Core.Path.{◌≡◌, sym, ◌∙◌}
use denote.Triple.Clauses.{AtExit}
use borrow.Fn.Kinds.{Dens, res_t, ended_of}
use contract.Lifetimes.{Lfts}
use Rattle.faults.proofs.Answer.{settled}
use Rattle.answers.proofs.Told.{told-settled}
use Rattle.requests.proofs.request_of.Reads as request-of
use Rattle.requests.proofs.request_of.Kinds as request-of-kinds
use Rattle.requests.proofs.packets.look.Reads as look
use Rattle.requests.proofs.packets.look.Kinds as look-kinds
use Rattle.answers.proofs.reply.Reads as reply
use Rattle.answers.proofs.reply.Kinds as reply-kinds
use Rattle.answers.proofs.reply_call.Reads as reply-call
use Rattle.answers.proofs.reply_call.Kinds as reply-call-kinds
use Rattle.answers.proofs.tell.Reads as tell
use Rattle.answers.proofs.tell.Kinds as tell-kinds

pub request-settled : (κs : Lfts 1) (a : Dens κs request-of-kinds.ps) (r r' : (res_t request-of-kinds.r κs).Denot)
    (s s' : AtExit (ended_of 1 request-of-kinds.ps request-of-kinds.r) κs)
    → request-of.Post κs a r s → request-of.Post κs a r' s' → r ≡ r'
request-settled κs a r r' s s' p q = p ∙ sym q

pub look-settled : (κs : Lfts 1) (a : Dens κs look-kinds.ps) (r r' : (res_t look-kinds.r κs).Denot)
    (s s' : AtExit (ended_of 1 look-kinds.ps look-kinds.r) κs) → look.Post κs a r s → look.Post κs a r' s' → r ≡ r'
look-settled κs a r r' s s' p q = p.same ∙ sym q.same

pub reply-settled : (κs : Lfts 3) (a : Dens κs reply-kinds.ps) (r r' : (res_t reply-kinds.r κs).Denot)
    (s s' : AtExit (ended_of 3 reply-kinds.ps reply-kinds.r) κs)
    → reply.Post κs a r s → reply.Post κs a r' s' → (r ≡ r') × (s.1.1.1.0.now ≡ s'.1.1.1.0.now)
reply-settled κs a r r' s s' p q = settled p q

pub reply-call-settled : (κs : Lfts 4) (a : Dens κs reply-call-kinds.ps) (r r' : (res_t reply-call-kinds.r κs).Denot)
    (s s' : AtExit (ended_of 4 reply-call-kinds.ps reply-call-kinds.r) κs)
    → reply-call.Post κs a r s → reply-call.Post κs a r' s'
    → (r ≡ r') × ((s.1.1.1.1.0.now ≡ s'.1.1.1.1.0.now) × (s.1.0.now ≡ s'.1.0.now))
reply-call-settled κs a r r' s s' p q =
    let written = settled p.0 q.0 in
    (written.0, (written.1, p.1 ∙ sym q.1))

pub tell-settled : (κs : Lfts 1) (a : Dens κs tell-kinds.ps) (r r' : (res_t tell-kinds.r κs).Denot)
    (s s' : AtExit (ended_of 1 tell-kinds.ps tell-kinds.r) κs)
    → tell.Post κs a r s → tell.Post κs a r' s' → (r ≡ r') × (s.1.0.now ≡ s'.1.0.now)
tell-settled κs a r r' s s' p q = told-settled p q
