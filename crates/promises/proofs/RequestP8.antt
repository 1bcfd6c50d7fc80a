-- Request P8, "All closing positions", of every accepted job and every depth. Only statements, in the customer's words.
-- `boxes_of j depth` are the boxes that the public entry lists (halving, specs/Boxes and specs/Halving).
use mathlib.Core.Path.{◌≡◌}
use mathlib.Core.Bool.{true}
use mathlib.Core.List.{List, []}
use Prim.Native.Nat.{ℕ, ◌≤◌, ◌^◌}
use lib.ListN.{length}
use Rattle.intervals.specs.declared.Interval.{Interval}
use Rattle.jobs.specs.declared.Job.{Job}
use Rattle.checks.specs.Checks.{check_job}
use Rattle.checks.specs.Accepted.{Accepted}
use Rattle.checks.proofs.AcceptedLaws.{check_done}
use Rattle.edges.specs.Edges.{widest_of, Widest}
use Rattle.edges.proofs.Found.{widest-found}
use Rattle.step.specs.Values.{start_of}
use Rattle.halving.specs.Boxes.{Listed, boxes_of, Among}
use Rattle.halving.proofs.Answers.{few-boxes}
use Rattle.promises.specs.Claims.{Point, Lies, Same}
use Rattle.promises.specs.Jobs.{Solves}
use Rattle.promises.specs.Halved.{InListed}
use Rattle.promises.proofs.Jobs.{solves-zero}
use Rattle.promises.proofs.Halved as halved
use Rattle.std.specs.Prelude.{Ok}

module _ (j : Job) (checked : check_job j ≡ Ok tt) where
  accepted : Accepted j
  accepted = check_done j checked

  -- "its widest edge (lowest number on ties)" is that, of whatever box the run returned
  pub widest : (x : List Interval) → Widest j.head.n x (widest_of j.head.n x)
  widest x = widest-found x j.head.n accepted.some

  module _ (depth : ℕ) where
    -- "every fraction zero of the starting box lies in a listed box,"
    pub every-zero-listed : (p : Point) → Solves j p → Lies j.head.n p (start_of j)
        → InListed j.head.n p (boxes_of j depth)
    every-zero-listed p zero = halved.zero-listed j accepted (solves-zero j accepted zero) depth

    -- "and each box listed as unique holds at most one.": two zeros in it, over any denominators, are the same point
    pub unique-holds-one : (b : Listed) → Among b (boxes_of j depth) → b.unique ≡ true
        → (p r : Point) → Solves j p → Solves j r → Lies j.head.n p b.sides → Lies j.head.n r b.sides
        → Same j.head.n p r
    unique-holds-one b listed says p r y z h g =
        halved.one-in-unique j accepted (solves-zero j accepted y) (solves-zero j accepted z) b depth listed says h g

    -- listed are at most "two to the power of the depth"
    pub few : length (boxes_of j depth) ≤ 2 ^ depth
    few = few-boxes j depth

    -- so an empty list says that the starting box has no fraction zero
    pub none-listed : boxes_of j depth ≡ [] → (p : Point) → Solves j p → Lies j.head.n p (start_of j) → ⊥
    none-listed empty p zero lies = halved.in-none j.head.n p (rw empty at (every-zero-listed p zero lies))
