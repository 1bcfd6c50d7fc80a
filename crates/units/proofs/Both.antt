-- The result's text in a buffer of its own, and that text with the lines behind it.
use Prim.Native.Nat.{ℕ, ◌+◌, ◌≤◌}
use native.Mathlib.Omega.{arith}
use mathlib.Core.Path.{◌≡◌, ◌∙◌}
use mathlib.Core.List.{List, ◌++◌}
use lib.ListN.{length, take, drop, length-append}
use lib.Seq.{take-append_seam}
use borrow.Author.Tests.{le-ltb}
use Rattle.sizes.specs.Sizes.{text_max}
use Rattle.checks.specs.CheckResult.{check_result}
use Rattle.jobs.specs.declared.Result.{Result}
use Rattle.faults.specs.Checked.{Checked}
use Rattle.writing.specs.Wrote.{Wrote}
use Rattle.faults.specs.Answer.{answer_of, left_in, Leaves}
use Rattle.writing.proofs.Wrote.{wrote-append}
use Rattle.result_form.specs.ResultShows.{show_result}
use Rattle.result_form.proofs.Trips.{result-short}
use Rattle.result_write.proofs.Ready.{ready-done}
use Rattle.units.specs.Show.{unknown_lines, units_of}
use Rattle.std.specs.Prelude.{Ok}

pub checked-short : (r : Result) → check_result r ≡ Ok tt → length (show_result r) ≤ text_max
checked-short r e = result-short r (ready-done r e).few

-- the first k bytes are the result's text
pub record Whole (r : Result) (new : List ℕ) (k : ℕ) : Type 0 where
  pub inside : k ≤ length new
  pub text : take k new ≡ show_result r

module _ (r : Result) where
  -- a text's buffer has room for it
  pub result-done : {old new : List ℕ} {a : Checked ℕ} → check_result r ≡ Ok tt → text_max ≤ length old
      → Leaves (Ok tt) (show_result r) old new a → a ≡ Ok (length (show_result r))
  unfolding answer_of
  result-done {old} e room l =
      let t = show_result r in
      let fits = le-ltb (length old) (length t) (omega (arith, checked-short r e)) in
      l.answer ∙ rw fits

  pub result-whole : {old new : List ℕ} {k : ℕ} → check_result r ≡ Ok tt → text_max ≤ length old
      → Leaves (Ok tt) (show_result r) old new (Ok k) → Whole r new k
  unfolding left_in
  result-whole {old} {new} {k} e room l =
      let t = show_result r in
      let fits = le-ltb (length old) (length t) (omega (arith, checked-short r e)) in
      let answer = result-done e room l in
      let n : k ≡ length t = cc in
      let is : new ≡ t ++ drop (length t) old = l.left ∙ rw fits in
      record {
        inside = rw (n, is, length-append t (drop (length t) old)) (omega arith);
        text = rw (n, is) (take-append_seam t (drop (length t) old));
      }

  pub both-written : {old mid new text : List ℕ} {at len : ℕ} → text ≡ show_result r → Wrote old mid 0 at text
      → Wrote mid new at len (unknown_lines r.n r.lo r.hi) → Wrote old new 0 len (units_of r)
  unfolding units_of
  both-written e p q = wrote-append (rw e at p) q

  pub both-length : length (units_of r) ≡ length (show_result r) + length (unknown_lines r.n r.lo r.hi)
  unfolding units_of
  both-length = length-append (show_result r) (unknown_lines r.n r.lo r.hi)
