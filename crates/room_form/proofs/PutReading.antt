-- A reading that a writer puts into its place in the table.
use Prim.Native.Nat.{ℕ, ◌+◌, ◌-◌, ◌≤◌}
use native.Mathlib.Omega.{arith}
use mathlib.Core.Path.{◌≡◌, ap, ap₂, ◌∙◌, subst}
use mathlib.Core.Bool.{false}
use mathlib.Core.List.{List, ◌++◌}
use lib.ListN.{length, take, drop, length-drop}
use lib.Seq.{sets, length-take-le}
use lib.Dec.{ltb}
use borrow.Author.Tests.{le-ltb}
use Rattle.faults.specs.Checked.{Checked}
use Rattle.faults.specs.Answer.{Leaves}
use Rattle.checks.specs.CheckResult.{check_result}
use Rattle.checks.proofs.CheckResultLaws.{sound}
use Rattle.jobs.specs.declared.Result.{Result}
use Rattle.result_form.specs.ResultShows.{show_result}
use Rattle.result_form.proofs.Trips.{result-width}
use Rattle.cells.specs.Cells.{number_bytes, cell}
use Rattle.cells.proofs.Writing.{put-in-part, length-put}
use Rattle.room_form.specs.Table.{reading_most}
use Rattle.room_form.proofs.Written.{done-told, all_there}
use Rattle.std.specs.Prelude.{Ok}
use Rattle.std.specs.Result.{result_unwrap_or}

-- every reading has room in its slot
pub reading-short : (r : Result) → check_result r ≡ Ok tt → length (show_result r) ≤ reading_most
reading-short r e = omega (arith, result-width r, (sound r e).few)

module _ (t : List ℕ) (at : ℕ) (q : List ℕ) (room : at + 4 + reading_most ≤ length t) (short : length q ≤ reading_most)
  where
    -- the part that is lent to the writer
    abbrev lent : ℕ → List ℕ
    lent m = take m (drop (at + 4) t)

    abbrev Put : ℕ → Type 0
    Put m = (new : List ℕ) (a : Checked ℕ) → Leaves (Ok tt) q (lent m) new a
        → sets (take (at + 4) t ++ (new ++ drop m (drop (at + 4) t))) at (number_bytes (result_unwrap_or a 0))
        ≡ sets t at (cell q)

    put_all : Put reading_most
    put_all new a w =
        let long : length (lent reading_most) ≡ reading_most =
        length-take-le reading_most (drop (at + 4) t) (omega (arith, length-drop (at + 4) t)) in
        let few : ltb (length (lent reading_most)) (length q) ≡ false =
        le-ltb (length (lent reading_most)) (length q) (omega (arith, long)) in
        ap₂ (λ (xs : List ℕ) (n : ℕ).
        sets (take (at + 4) t ++ (xs ++ drop reading_most (drop (at + 4) t))) at (number_bytes n))
        (all_there w few) (ap (λ (x : Checked ℕ). result_unwrap_or x 0) (done-told w few))
        ∙ ap (λ (xs : List ℕ). sets xs at (number_bytes (length q))) (put-in-part t (at + 4) reading_most q short room)
        ∙ length-put t at q

    pub put-law : Put (at + 4 + reading_most - (at + 4))
    put-law = let e : reading_most ≡ at + 4 + reading_most - (at + 4) = omega arith in subst Put e put_all
