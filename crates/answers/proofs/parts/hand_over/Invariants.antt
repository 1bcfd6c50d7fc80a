-- What has been handed over is what was taken, and the rest stands behind it.
use Rattle.std.proofs.Common.{◌≡◌, ℕ, List, ◌++◌}
use Rattle.job_parts.specs.Parts.{begun, bytes_taken}
use Rattle.answers.proofs.parts.hand_over.Given as goal

abbrev pub invariant-loop-length : goal.invariant-loop-length
invariant-loop-length l =
    (done : List ℕ) × (l.text ≡ done ++ l.rest) × (l.p ≡ bytes_taken begun done)
