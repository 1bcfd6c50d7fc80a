-- The calls on the table of rooms, of the library and for C: any two allowed answers, and every byte of the table and
-- of the lent buffer, are equal.
use mathlib.Core.Path.{◌≡◌, sym, ◌∙◌}
use denote.Triple.Clauses.{AtExit}
use borrow.Fn.Kinds.{Dens, res_t, ended_of}
use contract.Lifetimes.{Lfts}
use Rattle.faults.proofs.Answer as written
use Rattle.c_answers.proofs.Gives as gives
use Rattle.rooms.proofs.clear.Reads as clear-call
use Rattle.rooms.proofs.clear.Kinds as clear-kinds
use Rattle.rooms.proofs.«open».Reads as open-call
use Rattle.rooms.proofs.«open».Kinds as open-kinds
use Rattle.rooms.proofs.step.Reads as step_call
use Rattle.rooms.proofs.step.Kinds as step-kinds
use Rattle.rooms.proofs.reading.Reads as reading-call
use Rattle.rooms.proofs.reading.Kinds as reading-kinds
use Rattle.rooms.proofs.close.Reads as close-call
use Rattle.rooms.proofs.close.Kinds as close-kinds
use Rattle.floodrafter_c.proofs.screens.floodrafter_room_clear.Reads as clear-for-c
use Rattle.floodrafter_c.proofs.screens.floodrafter_room_clear.Kinds as clear-for-c-kinds
use Rattle.floodrafter_c.proofs.screens.floodrafter_room_open.Reads as open-for-c
use Rattle.floodrafter_c.proofs.screens.floodrafter_room_open.Kinds as open-for-c-kinds
use Rattle.floodrafter_c.proofs.screens.floodrafter_room_step.Reads as step-for-c
use Rattle.floodrafter_c.proofs.screens.floodrafter_room_step.Kinds as step-for-c-kinds
use Rattle.floodrafter_c.proofs.screens.floodrafter_room_reading.Reads as reading-for-c
use Rattle.floodrafter_c.proofs.screens.floodrafter_room_reading.Kinds as reading-for-c-kinds
use Rattle.floodrafter_c.proofs.screens.floodrafter_room_close.Reads as close-for-c
use Rattle.floodrafter_c.proofs.screens.floodrafter_room_close.Kinds as close-for-c-kinds

pub clear-settled : (κs : Lfts 1) (a : Dens κs clear-kinds.ps) (r r' : (res_t clear-kinds.r κs).Denot)
    (s s' : AtExit (ended_of 1 clear-kinds.ps clear-kinds.r) κs)
    → clear-call.Post κs a r s → clear-call.Post κs a r' s' → (r ≡ r') × (s.0.now ≡ s'.0.now)
clear-settled κs a r r' s s' p q = (p.0 ∙ sym q.0, p.1 ∙ sym q.1)

pub open-settled : (κs : Lfts 2) (a : Dens κs open-kinds.ps) (r r' : (res_t open-kinds.r κs).Denot)
    (s s' : AtExit (ended_of 2 open-kinds.ps open-kinds.r) κs)
    → open-call.Post κs a r s → open-call.Post κs a r' s' → (r ≡ r') × (s.0.now ≡ s'.0.now)
open-settled κs a r r' s s' p q = (p.0 ∙ sym q.0, p.1 ∙ sym q.1)

pub step-settled : (κs : Lfts 2) (a : Dens κs step-kinds.ps) (r r' : (res_t step-kinds.r κs).Denot)
    (s s' : AtExit (ended_of 2 step-kinds.ps step-kinds.r) κs)
    → step_call.Post κs a r s → step_call.Post κs a r' s'
    → (r ≡ r') × (s.0.now ≡ s'.0.now) × (s.1.1.1.0.now ≡ s'.1.1.1.0.now)
step-settled κs a r r' s s' p q =
    let told = written.settled p.0 q.0 in (told.0, p.1 ∙ sym q.1, told.1)

pub reading-settled : (κs : Lfts 2) (a : Dens κs reading-kinds.ps) (r r' : (res_t reading-kinds.r κs).Denot)
    (s s' : AtExit (ended_of 2 reading-kinds.ps reading-kinds.r) κs)
    → reading-call.Post κs a r s → reading-call.Post κs a r' s'
    → (r ≡ r') × (s.1.1.1.0.now ≡ s'.1.1.1.0.now)
reading-settled κs a r r' s s' p q = written.settled p q

pub close-settled : (κs : Lfts 1) (a : Dens κs close-kinds.ps) (r r' : (res_t close-kinds.r κs).Denot)
    (s s' : AtExit (ended_of 1 close-kinds.ps close-kinds.r) κs)
    → close-call.Post κs a r s → close-call.Post κs a r' s' → (r ≡ r') × (s.0.now ≡ s'.0.now)
close-settled κs a r r' s s' p q = (p.0 ∙ sym q.0, p.1 ∙ sym q.1)

pub clear-for-c-settled : (κs : Lfts 1) (a : Dens κs clear-for-c-kinds.ps) (r r' : (res_t clear-for-c-kinds.r κs).Denot)
    (s s' : AtExit (ended_of 1 clear-for-c-kinds.ps clear-for-c-kinds.r) κs)
    → clear-for-c.Post κs a r s → clear-for-c.Post κs a r' s' → (r ≡ r') × (s.0.now ≡ s'.0.now)
clear-for-c-settled κs a r r' s s' p q = (p.0 ∙ sym q.0, p.1 ∙ sym q.1)

pub open-for-c-settled : (κs : Lfts 2) (a : Dens κs open-for-c-kinds.ps) (r r' : (res_t open-for-c-kinds.r κs).Denot)
    (s s' : AtExit (ended_of 2 open-for-c-kinds.ps open-for-c-kinds.r) κs)
    → open-for-c.Post κs a r s → open-for-c.Post κs a r' s' → (r ≡ r') × (s.0.now ≡ s'.0.now)
open-for-c-settled κs a r r' s s' p q = (p.0 ∙ sym q.0, p.1 ∙ sym q.1)

pub step-for-c-settled : (κs : Lfts 2) (a : Dens κs step-for-c-kinds.ps) (r r' : (res_t step-for-c-kinds.r κs).Denot)
    (s s' : AtExit (ended_of 2 step-for-c-kinds.ps step-for-c-kinds.r) κs)
    → step-for-c.Post κs a r s → step-for-c.Post κs a r' s'
    → (r ≡ r') × (s.0.now ≡ s'.0.now) × (s.1.1.1.0.now ≡ s'.1.1.1.0.now)
step-for-c-settled κs a r r' s s' p q =
    let told = gives.settled p.0 q.0 in (told.0, p.1 ∙ sym q.1, told.1)

pub reading-for-c-settled : (κs : Lfts 2) (a : Dens κs reading-for-c-kinds.ps)
    (r r' : (res_t reading-for-c-kinds.r κs).Denot)
    (s s' : AtExit (ended_of 2 reading-for-c-kinds.ps reading-for-c-kinds.r) κs)
    → reading-for-c.Post κs a r s → reading-for-c.Post κs a r' s'
    → (r ≡ r') × (s.1.1.1.0.now ≡ s'.1.1.1.0.now)
reading-for-c-settled κs a r r' s s' p q = gives.settled p q

pub close-for-c-settled : (κs : Lfts 1) (a : Dens κs close-for-c-kinds.ps) (r r' : (res_t close-for-c-kinds.r κs).Denot)
    (s s' : AtExit (ended_of 1 close-for-c-kinds.ps close-for-c-kinds.r) κs)
    → close-for-c.Post κs a r s → close-for-c.Post κs a r' s' → (r ≡ r') × (s.0.now ≡ s'.0.now)
close-for-c-settled κs a r r' s s' p q = (p.0 ∙ sym q.0, p.1 ∙ sym q.1)
