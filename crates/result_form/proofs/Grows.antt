-- A line of a result text that is read is the line that is shown for what it leaves.
use Prim.Native.Nat.{ℕ}
use native.Mathlib.Omega.{arith}
use mathlib.Core.Path.{◌≡◌, refl, ap, ap₂}
use mathlib.Core.List.{List}
use mathlib.Core.Bool.{false}
use lib.IntN.{ℤ}
use Rattle.sizes.specs.Sizes.{n_max}
use Rattle.faults.specs.declared.Fault.{Fault}
use Rattle.jobs.specs.declared.Result.{Result}
use Rattle.reading.specs.Results.{Told}
use Rattle.reading.specs.Shows.{Kept}
use Rattle.reading.proofs.Told.{told-fault, told-after, told-passing}
use Rattle.reading.proofs.NumberLines.{list-line-told}
use Rattle.reading.proofs.Trips.{Grown, line_same}
use Rattle.reading.proofs.Walk.{passed-next}
use Rattle.jobs.specs.declared.ResultLine.{ResultLine}
use Rattle.checks.specs.CheckResult.{result_check}
use Rattle.text.specs.Words.{lo_key}
use Rattle.lines.specs.Lines.{any_low_of}
use Rattle.result_form.specs.ResultForm.{with_number, with_visit, with_verdict, with_steps}
use Rattle.result_form.specs.ResultForm.{with_low, with_high, result_says, result_end}
use Rattle.result_form.specs.ResultShows.{result_shows}
use Rattle.result_form.proofs.Back.{Has}
use Rattle.lines.proofs.Was.{number-told, visit-told, steps-told}
use Rattle.lines.proofs.Told.{high-told}
use Rattle.lines.proofs.Words.{verdict-told}
use Rattle.lines.proofs.Checks.{counted-fine}

pub grows : (k : ResultLine) (v : Result) (l : List ℕ) → result_end k ≡ false → Kept result_shows k v → Has v k
    → Told (Grown result_shows Has k v l) (result_says k v l)
unfolding result_says any_low_of result_check
grows ResultLine.Number v l o p h =
    told-after _ _ (number-told l) (λ m e. record {
      lines = line_same result_shows ResultLine.Number v e.shown;
      kept = record {
        passed = (e.fine, tt);
        only = ap (λ (u : Result). with_number u m) p.only;
      };
      has = tt;
    })
grows ResultLine.Visit v l o p h =
    told-after _ _ (visit-told l) (λ m e. record {
      lines = line_same result_shows ResultLine.Visit v e.shown;
      kept = record {
        passed = passed-next result_shows (with_visit v m) ResultLine.Visit p.passed e.fine;
        only = ap (λ (u : Result). with_visit u m) p.only;
      };
      has = tt;
    })
grows ResultLine.Verdict v l o p h =
    told-after _ _ (verdict-told l) (λ w e. record {
      lines = line_same result_shows ResultLine.Verdict v e;
      kept = record {
        passed = passed-next result_shows (with_verdict v w) ResultLine.Verdict p.passed refl;
        only = ap (λ (u : Result). with_verdict u w) p.only;
      };
      has = tt;
    })
grows ResultLine.Steps v l o p h =
    told-after _ _ (steps-told l) (λ m e. record {
      lines = line_same result_shows ResultLine.Steps v e.shown;
      kept = record {
        passed = passed-next result_shows (with_steps v m) ResultLine.Steps p.passed e.fine;
        only = ap (λ (u : Result). with_steps u m) p.only;
      };
      has = tt;
    })
grows ResultLine.Lo v l o p h =
    told-after _ _ (told-passing _ _ (list-line-told Fault.Spelling lo_key l n_max (omega arith))) (λ x e.
    let size = (counted-fine x.count x.row e.1).0 in
    record {
      lines = line_same result_shows ResultLine.Lo v (e.0.shown size.1);
      kept = record {
        passed = passed-next result_shows (with_low v x) ResultLine.Lo p.passed e.1;
        only = ap₂ (λ (u : Result) (row : List ℤ). with_low u (record { count = x.count; row = row }))
            p.only (e.0.live size.1);
      };
      has = size;
    })
grows ResultLine.Hi v l o p h =
    told-after _ _ (high-told v.n h.0 h.1 l v.lo) (λ xs e. record {
      lines = line_same result_shows ResultLine.Hi v e.shown;
      kept = record {
        passed = passed-next result_shows (with_high v xs) ResultLine.Hi p.passed e.fine;
        only = ap₂ with_high p.only e.whole;
      };
      has = tt;
    })
grows ResultLine.End v l o p h = told-fault Fault.Spelling
