-- decide: each turn looks at one coordinate, and one that lies apart decides; then the tests in document 01's order.
use Rattle.step.proofs.Pass.{Passed}
use Rattle.step.proofs.decide.Given as goal

abbrev pub invariant-loop-i : goal.invariant-loop-i
invariant-loop-i l = Passed l.x l.k l.i l.c l.inside l.same
