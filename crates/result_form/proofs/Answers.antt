-- What the reader of a result text answers, and when.
use Prim.Native.Nat.{ℕ, ◌+◌, ◌≤◌}
use mathlib.Core.Path.{◌≡◌, ap}
use mathlib.Core.List.{List, ◌++◌}
use mathlib.Core.Logic.{◌↔◌}
use lib.ListN.{length}
use Rattle.sizes.specs.Sizes.{text_max}
use Rattle.faults.specs.declared.Fault.{Fault}
use Rattle.faults.specs.Checked.{status_of, refused}
use Rattle.faults.proofs.Laws.{done-value}
use Rattle.checks.specs.CheckResult.{check_result}
use Rattle.jobs.specs.Zero.{no_result}
use Rattle.jobs.specs.declared.Result.{Result}
use Rattle.reading.specs.Lines.{read}
use Rattle.reading.specs.Refused.{Decides, Refused}
use Rattle.reading.proofs.Parts.{decided-text}
use Rattle.reading.proofs.Refused.{refused-exactly}
use Rattle.reading.proofs.Trips.{numbered}
use Rattle.checks.specs.Answered.{result_in}
use Rattle.lines.specs.Answered.{answered}
use Rattle.lines.proofs.Answered.{status-refused}
use Rattle.result_form.specs.ResultForm.{result_form_of, read_result}
use Rattle.result_form.specs.ResultShows.{result_shows, show_result, live, Spelled}
use Rattle.result_form.proofs.Back.{Has, Spelt}
use Rattle.result_form.proofs.Trips.{laws}
use Rattle.result_form.proofs.Trips as trips
use Rattle.std.specs.Prelude.{Ok}

-- "a line counted from 1"
pub line-number : (t : List ℕ) (f : Fault) (n : ℕ) (b : Refused result_form_of t f n) → n ≡ length b.before + 1
line-number = numbered result_form_of result_shows Has Spelt laws

module _ (t : List ℕ) where
  pub whole : status_of (read_result t) ≡ Ok tt → read_result t ≡ Ok (result_in (read_result t))
  whole = done-value no_result (read_result t)

  -- what is read without fault has none, and is written as it was
  pub read-checked : status_of (read_result t) ≡ Ok tt → check_result (result_in (read_result t)) ≡ Ok tt
  read-checked e = (trips.write_read t (result_in (read_result t)) (whole e)).1

  pub read_same : status_of (read_result t) ≡ Ok tt → show_result (result_in (read_result t)) ≡ t
  read_same e = (trips.write_read t (result_in (read_result t)) (whole e)).0

  pub exactly : (r : Result)
      → (read_result t ≡ Ok r)
      ↔ ((show_result r ≡ t) × (check_result r ≡ Ok tt) × (live r ≡ r))
  unfolding read_result
  exactly r = (trips.write_read t r, λ h. ap answered ((trips.exactly t r).1 h))

  pub first-bad : (f : Fault) (n : ℕ) → length t ≤ text_max
      → (status_of (read_result t) ≡ refused f n) ↔ Refused result_form_of t f n
  unfolding read_result
  first-bad f n h =
      let is = refused-exactly result_form_of t f n h in (
        λ e. is.0 (status-refused (read result_form_of t) f n e),
        λ b. ap (λ a. status_of (answered a)) (is.1 b),
      )

pub decided : (a b : List ℕ) (f : Fault) (n : ℕ) → Decides result_form_of a f n → length (a ++ b) ≤ text_max
    → read_result (a ++ b) ≡ refused f n
unfolding read_result
decided a b f n d h = ap answered (decided-text result_form_of a b f n d h)

pub same-order : (r : Result) → Spelled r → length (show_result r) ≤ text_max
    → status_of (read_result (show_result r)) ≡ check_result r
unfolding read_result
same-order = trips.same-order
