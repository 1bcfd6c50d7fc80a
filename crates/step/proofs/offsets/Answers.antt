-- offsets: each middle can be turned, and each difference fits.
use borrow.Author.Rules.{rules}
use Rattle.step.proofs.Fitting.{turned-middle, offset-fits}
use Rattle.step.proofs.offsets.Goals as goal

pub filled-requires : goal.filled-requires
filled-requires c =
    let p = c.requires in
    search (rules, turned-middle p.x_in p.m_in, offset-fits p.x_in p.m_in)
