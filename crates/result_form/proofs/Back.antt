-- A line of a result that is shown is read as the check of its values finds.
use Prim.Native.Nat.{◌≤◌, ◌<◌, ◌^◌}
use native.Mathlib.Omega.{arith}
use mathlib.Core.Path.{◌≡◌}
use mathlib.Core.Bool.{false, true≢false}
use Rattle.sizes.specs.Sizes.{n_max}
use Rattle.digits.specs.Bytes.{line_feed}
use Rattle.digits.specs.Number.{digits_max}
use Rattle.text.specs.Lists.{Small}
use Rattle.text.proofs.Pieces.{Above}
use Rattle.jobs.specs.declared.Result.{Result}
use Rattle.reading.specs.Results.{after}
use Rattle.reading.specs.NumberLines.{placed}
use Rattle.reading.proofs.Told.{after-after}
use Rattle.reading.proofs.NumberLines.{count-plain, list-plain}
use Rattle.reading.proofs.Walk.{Law}
use Rattle.text.specs.Words.{job_key, visit_key, steps_key, lo_key, hi_key}
use Rattle.jobs.specs.declared.ResultLine.{ResultLine}
use Rattle.checks.specs.Checks.{number_check, steps_check, high_check}
use Rattle.checks.specs.CheckResult.{visit_check, counted_check, result_check}
use Rattle.lines.proofs.Words.{verdict-above, verdict-back}
use Rattle.lines.proofs.Checks.{counted-fine, low_small, high_small, number_spelled, visit-spelled, steps-spelled}
use Rattle.lines.proofs.Back.{number-back, visit-back, steps_back, any-low-back, high-back}
use Rattle.result_form.specs.ResultForm.{result_says, result_end, result_form_of}
use Rattle.result_form.specs.ResultShows.{line, result_shows}

-- what is reached where no check before finds a fault
abbrev pub Has : Result → ResultLine → Type 0
Has r ResultLine.Number = Unit {0}
Has r ResultLine.Visit = Unit {0}
Has r ResultLine.Verdict = Unit {0}
Has r ResultLine.Steps = Unit {0}
Has r ResultLine.Lo = Unit {0}
Has r ResultLine.Hi = (0 < r.n) × (r.n ≤ n_max)
Has r ResultLine.End = Unit {0}

abbrev pub Spelt : Result → ResultLine → Type 0
Spelt r ResultLine.Number = r.number < 10 ^ digits_max
Spelt r ResultLine.Visit = r.visit < 10 ^ digits_max
Spelt r ResultLine.Verdict = Unit {0}
Spelt r ResultLine.Steps = r.steps < 10 ^ digits_max
Spelt r ResultLine.Lo = Small (placed r.n r.n r.lo)
Spelt r ResultLine.Hi = Small (placed r.n r.n r.hi)
Spelt r ResultLine.End = Unit {0}

pub law : (r : Result) (k : ResultLine) → Has r k → result_end k ≡ false
    → Law result_form_of result_shows r (Has r) (Spelt r) k
unfolding result_says result_check after
law r ResultLine.Number h o = record {
  says = λ s. rw (number-back r.number s) (after-after (number_check r.number) _ _);
  spelt = λ e. number_spelled r.number e;
  has = λ e. tt;
}
law r ResultLine.Visit h o = record {
  says = λ s. rw (visit-back r.visit s) (after-after (visit_check r.visit) _ _);
  spelt = λ e. visit-spelled r.visit e;
  has = λ e. tt;
}
law r ResultLine.Verdict h o = record {
  says = λ s. rw (verdict-back r.verdict);
  spelt = λ e. tt;
  has = λ e. tt;
}
law r ResultLine.Steps h o = record {
  says = λ s. rw (steps_back r.steps s) (after-after (steps_check r.steps) _ _);
  spelt = λ e. steps-spelled r.steps e;
  has = λ e. tt;
}
law r ResultLine.Lo h o = record {
  says = λ s. rw (any-low-back r.n r.lo s) (after-after (counted_check r.n r.lo) _ _);
  spelt = λ e. low_small r.n r.lo (counted-fine r.n r.lo e).1;
  has = λ e. (counted-fine r.n r.lo e).0;
}
law r ResultLine.Hi h o = record {
  says = λ s.
      rw (high-back r.n h.0 h.1 r.lo r.hi s)
      (after-after (high_check r.n r.lo r.hi) _ _);
  spelt = λ e. high_small r.n r.hi r.lo e;
  has = λ e. tt;
}
law r ResultLine.End h o = absurd (true≢false o)

pub plain : (r : Result) (k : ResultLine) → Above line_feed (line k r)
unfolding Above
plain r ResultLine.Number = count-plain job_key (omega arith) r.number
plain r ResultLine.Visit = count-plain visit_key (omega arith) r.visit
plain r ResultLine.Verdict = verdict-above r.verdict
plain r ResultLine.Steps = count-plain steps_key (omega arith) r.steps
plain r ResultLine.Lo = list-plain lo_key (omega arith) digits_max (placed r.n r.n r.lo)
plain r ResultLine.Hi = list-plain hi_key (omega arith) digits_max (placed r.n r.n r.hi)
plain r ResultLine.End = tt
