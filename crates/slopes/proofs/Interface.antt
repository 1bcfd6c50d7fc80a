-- What the step's laws take from a system: these three laws about the equation and the slopes over a box, and nothing
-- else. Another way of forming the powers of an unknown re-proves them and leaves what stands above alone.
--
-- Let P and R be fraction points over one denominator d in the box X, and Q = 65,536 d. For an equation of degree 3 at
-- most:
-- 1. `hold-equation`: equation_num P over Q^3, the equation's exact value at P, lies in the equation over X;
-- 2. `slopes-law`: equation_num P - equation_num R is the sum of (P j - R j) slope_num j over the unknowns j;
-- 3. `slopes-hold`: slope_num j over Q^2 lies in the slope over X in unknown j.
pub use Rattle.slopes.proofs.Values.{hold-equation}
pub use Rattle.slopes.proofs.Slopes.{slope_num, slopes-law, slopes-hold}
