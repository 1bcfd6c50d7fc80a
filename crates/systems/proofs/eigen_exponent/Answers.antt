-- eigen_exponent: no exponent is over 2.
use native.Mathlib.Omega.{arith}
use Rattle.systems.proofs.Exponents.{unit-small, vector-small}
use Rattle.systems.proofs.eigen_exponent.Goals as goal

pub overflow_add-result : goal.overflow_add-result
overflow_add-result c = omega (arith, unit-small c.args.p c.args.k, vector-small c.args.p c.args.i c.args.k)
