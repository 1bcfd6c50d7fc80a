-- A result has no fault exactly where each of its values is within its size.
use Prim.Native.Nat.{◌<◌, ◌≤◌}
use mathlib.Core.Path.{◌≡◌, refl}
use mathlib.Core.Bool.{true}
use lib.IntN.{pos}
use borrow.Author.Tests.{leb-true, le-leb}
use Rattle.sizes.specs.Sizes.{n_max, steps_max, number_max, visit_max, end_max}
use Rattle.faults.specs.declared.Fault.{Fault}
use Rattle.faults.proofs.Laws.{fine-first, fine-next, both-fine, unless-fine, fine-unless, fine-line, line-fine}
use Rattle.faults.proofs.Laws.{done_first, done_next, both-done}
use Rattle.jobs.specs.declared.Result.{Result}
use Rattle.term_checks.specs.Ranges.{all_within, all_ordered}
use Rattle.checks.specs.Checks.{number_check, steps_check, low_check, high_check}
use Rattle.checks.specs.CheckResult.{visit_check, count_check, counted_check}
use Rattle.checks.specs.CheckResult.{result_check, result_line_status, check_result}
use Rattle.checks.proofs.CheckLaws.{count-fine}
use Rattle.std.specs.Prelude.{Ok}

pub record Sound (r : Result) : Type 0 where
  pub number : r.number ≤ number_max
  pub visit : r.visit ≤ visit_max
  pub steps : r.steps ≤ steps_max
  pub some : 0 < r.n
  pub few : r.n ≤ n_max
  pub low : all_within r.lo r.n (pos end_max) ≡ true
  pub high : all_within r.hi r.n (pos end_max) ≡ true
  pub ordered : all_ordered r.lo r.hi r.n ≡ true

pub sound : (r : Result) → check_result r ≡ Ok tt → Sound r
unfolding check_result result_line_status result_check visit_check counted_check number_check steps_check low_check
    high_check
sound r e =
    let visit = done_next _ _ e in
    let steps = done_next _ _ (done_next _ _ visit) in
    let low = fine-line _ _ (done_first _ _ (done_next _ _ steps)) in
    let high = fine-line _ _ (done_next _ _ (done_next _ _ steps)) in
    let n = count-fine r.n (fine-first _ _ low) in
    record {
      number = leb-true r.number number_max (unless-fine _ Fault.Beyond (fine-line _ _ (done_first _ _ e)));
      visit = leb-true r.visit visit_max (unless-fine _ Fault.Beyond (fine-line _ _ (done_first _ _ visit)));
      steps = leb-true r.steps steps_max (unless-fine _ Fault.Steps (fine-line _ _ (done_first _ _ steps)));
      some = n.0;
      few = n.1;
      low = unless-fine _ Fault.Beyond (fine-next _ _ low);
      high = unless-fine _ Fault.Beyond (fine-first _ _ high);
      ordered = unless-fine _ Fault.Crossed (fine-next _ _ high);
    }

pub unfaulted : (r : Result) → Sound r → check_result r ≡ Ok tt
unfolding check_result result_line_status result_check visit_check counted_check count_check number_check steps_check
    low_check high_check
unfaulted r s =
    both-done (line-fine _ (fine-unless Fault.Beyond (le-leb r.number number_max s.number)))
    (both-done (line-fine _ (fine-unless Fault.Beyond (le-leb r.visit visit_max s.visit)))
    (both-done (line-fine _ refl)
    (both-done (line-fine _ (fine-unless Fault.Steps (le-leb r.steps steps_max s.steps)))
    (both-done (line-fine _ (both-fine
    (both-fine (fine-unless Fault.Spelling (le-leb 1 r.n s.some))
    (fine-unless Fault.Unknowns (le-leb r.n n_max s.few)))
    (fine-unless Fault.Beyond s.low)))
    (line-fine _ (both-fine (fine-unless Fault.Beyond s.high) (fine-unless Fault.Crossed s.ordered)))))))
