-- The same of the step's two operations, of values and as text, with every byte of the lent buffer.
use mathlib.Core.Path.{◌≡◌, sym, ◌∙◌}
use denote.Triple.Clauses.{AtExit}
use borrow.Fn.Kinds.{Dens, res_t, ended_of}
use contract.Lifetimes.{Lfts}
use Rattle.faults.proofs.Answer.{settled}
use Rattle.one_step.proofs.image.Reads as image
use Rattle.one_step.proofs.image.Kinds as image-kinds
use Rattle.one_step.proofs.decide.Reads as decide
use Rattle.one_step.proofs.decide.Kinds as decide-kinds
use Rattle.step_text.proofs.image.Reads as image-text
use Rattle.step_text.proofs.image.Kinds as image-text-kinds
use Rattle.step_text.proofs.image_in.Reads as box-text
use Rattle.step_text.proofs.image_in.Kinds as box-text-kinds
use Rattle.step_text.proofs.step.Reads as step-text
use Rattle.step_text.proofs.step.Kinds as step-text-kinds
use Rattle.step_text.proofs.decide.Reads as decide-text
use Rattle.step_text.proofs.decide.Kinds as decide-text-kinds

pub image-settled : (κs : Lfts 0) (a : Dens κs image-kinds.ps) (r r' : (res_t image-kinds.r κs).Denot)
    (s s' : AtExit (ended_of 0 image-kinds.ps image-kinds.r) κs)
    → image.Post κs a r s → image.Post κs a r' s' → r ≡ r'
image-settled κs a r r' s s' p q = p ∙ sym q

pub decide_settled : (κs : Lfts 0) (a : Dens κs decide-kinds.ps) (r r' : (res_t decide-kinds.r κs).Denot)
    (s s' : AtExit (ended_of 0 decide-kinds.ps decide-kinds.r) κs)
    → decide.Post κs a r s → decide.Post κs a r' s' → r ≡ r'
decide_settled κs a r r' s s' p q = p ∙ sym q

pub image-text-settled : (κs : Lfts 2) (a : Dens κs image-text-kinds.ps) (r r' : (res_t image-text-kinds.r κs).Denot)
    (s s' : AtExit (ended_of 2 image-text-kinds.ps image-text-kinds.r) κs)
    → image-text.Post κs a r s → image-text.Post κs a r' s' → (r ≡ r') × (s.1.0.now ≡ s'.1.0.now)
image-text-settled κs a r r' s s' p q = settled p q

pub box-text-settled : (κs : Lfts 2) (a : Dens κs box-text-kinds.ps) (r r' : (res_t box-text-kinds.r κs).Denot)
    (s s' : AtExit (ended_of 2 box-text-kinds.ps box-text-kinds.r) κs)
    → box-text.Post κs a r s → box-text.Post κs a r' s' → (r ≡ r') × (s.1.1.0.now ≡ s'.1.1.0.now)
box-text-settled κs a r r' s s' p q = settled p q

pub step-text-settled : (κs : Lfts 2) (a : Dens κs step-text-kinds.ps) (r r' : (res_t step-text-kinds.r κs).Denot)
    (s s' : AtExit (ended_of 2 step-text-kinds.ps step-text-kinds.r) κs)
    → step-text.Post κs a r s → step-text.Post κs a r' s' → (r ≡ r') × (s.1.0.now ≡ s'.1.0.now)
step-text-settled κs a r r' s s' p q = settled p q

pub decide-text-settled : (κs : Lfts 1) (a : Dens κs decide-text-kinds.ps) (r r' : (res_t decide-text-kinds.r κs).Denot)
    (s s' : AtExit (ended_of 1 decide-text-kinds.ps decide-text-kinds.r) κs)
    → decide-text.Post κs a r s → decide-text.Post κs a r' s' → (r ≡ r') × (s.1.1.1.0.now ≡ s'.1.1.1.0.now)
decide-text-settled κs a r r' s s' p q = settled p q
