-- poly_equations: the places from n on are filled.
use borrow.Author.Rules.{rules}
use Rattle.std.proofs.Common.{◌≡◌, length}
use Rattle.sizes.specs.Sizes.{n_max}
use Rattle.jobs.specs.Places.{no_equation}
use Rattle.jobs.specs.Zero.{zero_equation}
use Rattle.systems.proofs.Wiped.{wiped}
use Rattle.systems.proofs.poly_equations.Goals as goal

pub returns : goal.returns
returns c =
    let long : length c.args.eqs ≡ n_max = search rules in
    wiped zero_equation no_equation n_max _ _ _ long c.requires
    (rw c.zero_equation.ensures at (c.fill.ensures.after (λ y k. search rules)))
