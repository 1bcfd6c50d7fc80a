-- A result with no fault is ready to be written, and each of its lines has its place.
use Prim.Native.Nat.{ℕ, ◌+◌, ◌≤◌}
use native.Mathlib.Omega.{arith}
use mathlib.Core.Path.{◌≡◌}
use lib.ListN.{length}
use Rattle.sizes.specs.Sizes.{n_max, text_max, end_max}
use Rattle.digits.specs.Number.{digits_max}
use Rattle.checks.specs.CheckResult.{check_result}
use Rattle.term_checks.proofs.RangeLaws.{all-within}
use Rattle.checks.proofs.CheckResultLaws.{Sound, sound}
use Rattle.jobs.specs.declared.Result.{Result}
use Rattle.jobs.specs.declared.ResultLine.{ResultLine}
use Rattle.writing.specs.Wrote
use Rattle.writing.proofs.Lines.{end-length, end_none}
use Rattle.lines.proofs.Checks.{within-below}
use Rattle.result_form.specs.ResultShows.{line}
use Rattle.result_form.proofs.Trips.{result-short}
use Rattle.result_write.specs.Ready.{Ready}
use Rattle.std.specs.Prelude.{Ok}

ready : (r : Result) → Sound r → Ready r
ready r s = record {
  few = s.few;
  low = within-below r.n r.lo digits_max end_max (omega arith) (all-within r.lo r.n end_max s.low);
  high = within-below r.n r.hi digits_max end_max (omega arith) (all-within r.hi r.n end_max s.high);
}

pub ready-done : (r : Result) → check_result r ≡ Ok tt → Ready r
ready-done r e = ready r (sound r e)

abbrev long : ResultLine → Result → ℕ
long k r = length (Wrote.line (line k r))

-- all lines together are no longer than a text may be
pub lines-short : (r : Result) → r.n ≤ n_max
    → long ResultLine.Number r
    + (long ResultLine.Visit r + (long ResultLine.Verdict r
    + (long ResultLine.Steps r + (long ResultLine.Lo r + (long ResultLine.Hi r + 0)))))
    ≤ text_max
lines-short r few =
    rw
    (end-length _ _, end-length _ _, end-length _ _, end-length _ _, end-length _ _, end-length _ _, end_none) at
    (result-short r few)
