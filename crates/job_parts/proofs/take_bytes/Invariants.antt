-- `job_parts::take_bytes` meets its contract.
use mathlib.Core.Path.{◌≡◌}
use lib.ListN.{length}
use Rattle.sizes.specs.Sizes.{text_max}
use Rattle.job_parts.specs.Parts.{bytes_taken}
use Rattle.job_parts.proofs.Takes.{Going}
use Rattle.job_parts.proofs.take_bytes.Given as goal

abbrev pub invariant-loop-b : goal.invariant-loop-b
invariant-loop-b l =
    (length l.s.bytes ≡ text_max) × Going l.part (bytes_taken l.initial.s l.part) l.s l.b-index
