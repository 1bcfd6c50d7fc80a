-- The words of P8's claims.
use Rattle.std.specs.Prelude.{List, ℕ}
use Rattle.halving.specs.Boxes.{Listed, Among}
use Rattle.promises.specs.Claims.{Point, Lies}

-- the point p "lies in a listed box"
pub record InListed (n : ℕ) (p : Point) (bs : List Listed) : Type 0 where
  pub box : Listed
  pub listed : Among box bs
  pub lies : Lies n p box.sides
