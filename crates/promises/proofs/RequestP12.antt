-- Request P12, "Eight rooms, slots used again", as far as results are concerned. Only statements, each proved by one
-- line from the files beside this one. Fault.Spelling is 2, Fault.Beyond 4. That a visit comes back from text to values
-- and from values to text is in Demand2.antt, as for every value of a result.
use Prim.Native.Nat.{ℕ, ◌≤◌, ◌<◌}
use mathlib.Core.Path.{◌≡◌, refl}
use mathlib.Core.List.{List, []}
use mathlib.Core.Logic.{◌↔◌}
use lib.ListN.{get_or}
use Rattle.sizes.specs.Sizes.{number_max}
use Rattle.text.specs.Words.{visit_key}
use Rattle.faults.specs.declared.Fault.{Fault}
use Rattle.faults.specs.Checked.{refused}
use Rattle.jobs.specs.declared.Job.{Job}
use Rattle.jobs.specs.declared.Result.{Result}
use Rattle.jobs.specs.declared.ResultLine.{ResultLine}
use Rattle.jobs.specs.Lines.{result_number}
use Rattle.checks.specs.Answered.{result_in}
use Rattle.checks.specs.CheckResult.{visit_check, check_result}
use Rattle.reading.specs.Lines.{Answer, read}
use Rattle.reading.specs.Shows.{shown}
use Rattle.lines.specs.Texts.{count_text}
use Rattle.run.specs.Job.{run_job}
use Rattle.result_form.specs.ResultForm.{read_result}
use Rattle.result_form.specs.ResultShows.{result_shows}
use Rattle.old_texts.specs.Unvisited.{unvisited_form}
use Rattle.old_texts.proofs.Unvisited as unvisited
use Rattle.promises.proofs.Visits as visits
use Rattle.std.specs.Prelude.{Ok}

-- "The result record and text gain `visit=` as second line"
pub second-line : (r : Result) → get_or (shown result_shows r) 1 [] ≡ count_text visit_key r.visit
second-line r = refl

pub second-number : result_number ResultLine.Visit ≡ 2
second-number = refl

-- "(0 for a job run alone,"
pub alone : (j : Job) → (result_in (run_job j)).visit ≡ 0
alone = visits.alone

-- "at most 999,999,999, else 4);"
pub visit-fine : (v : ℕ) → (visit_check v ≡ Ok tt) ↔ (v ≤ 999999999)
visit-fine = visits.fine-exactly

pub visit-beyond : (r : Result) → r.number ≤ number_max → 999999999 < r.visit
    → check_result r ≡ refused Fault.Beyond 2
visit-beyond = visits.beyond

-- "old result texts are refused by 2, line 2."
pub old-refused : (t : List ℕ) (r : Result) → read unvisited_form t ≡ Answer.done r
    → read_result t ≡ refused Fault.Spelling 2
old-refused = unvisited.refused-now
