-- A step call, by what its tests find.
use Prim.Native.Nat.{ℕ}
use mathlib.Core.Path.{◌≡◌, refl, sym, ◌∙◌}
use mathlib.Core.Bool.{Bool, true, false}
use mathlib.Core.List.{List}
use lib.ListN.{length}
use lib.Seq.{sets}
use lib.Dec.{ltb}
use Rattle.faults.specs.Checked.{Checked}
use Rattle.faults.specs.Checks.{is_bad}
use Rattle.faults.specs.Answer.{Leaves}
use Rattle.faults.proofs.Laws.{not-bad}
use Rattle.result_form.specs.ResultShows.{show_result}
use Rattle.cells.specs.Cells.{cell}
use Rattle.room_form.specs.Table.{slot_from, room_at}
use Rattle.room_form.specs.Calls.{held_status, after_step, finished, stepped}
use Rattle.room_form.proofs.Written.{room-told}
use Rattle.std.specs.Prelude.{Ok}

module _ (t : List ℕ) (slot visit : ℕ) where
  pub step-refused : (space : ℕ) → is_bad (held_status t slot visit) ≡ true → t ≡ stepped t slot visit space
  unfolding stepped
  step-refused space bad = rw bad refl

  module _ (good : is_bad (held_status t slot visit) ≡ false) {old new : List ℕ} {a : Checked ℕ}
      (w : Leaves (Ok tt) (show_result (after_step t slot)) old new a)
    where
      pub told : Leaves (held_status t slot visit) (show_result (after_step t slot)) old new a
      told = rw (not-bad (held_status t slot visit) good) w

      room : {v : Bool} → is_bad a ≡ v → ltb (length old) (length (show_result (after_step t slot))) ≡ v
      room e = sym (room-told w) ∙ e

      -- "then 7 for the result text"
      pub step-short : is_bad a ≡ true → t ≡ stepped t slot visit (length old)
      unfolding stepped
      step-short e = rw (good, room e) refl

      module _ (fits : is_bad a ≡ false) where
        pub step-finished : finished (room_at t slot) ≡ true → t ≡ stepped t slot visit (length old)
        unfolding stepped
        step-finished e = rw (good, room fits, e) refl

        pub step-moved : finished (room_at t slot) ≡ false → {left : List ℕ}
            → left ≡ sets t (slot_from slot) (cell (show_result (after_step t slot)))
            → left ≡ stepped t slot visit (length old)
        unfolding stepped
        step-moved e q = rw (good, room fits, e) q
