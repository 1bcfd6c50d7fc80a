-- box_of: each side is the side of its unknown.
use borrow.Author.Rules.{rules}
use Rattle.step.specs.Values.{side_of, box_of}
use Rattle.step.proofs.values.box_of.Goals as goal

pub returns : goal.returns
unfolding box_of
returns c = c.filled.ensures (side_of c.args.e) (λ k r l p. search rules)
