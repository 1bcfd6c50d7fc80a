-- `rooms::put_visitor` meets its contract: three writings, one after the other.
use mathlib.Core.Path.{ap, ◌∙◌}
use mathlib.Core.List.{List}
use Prim.Native.Nat.{ℕ, ◌+◌}
use lib.Seq.{sets}
use Rattle.result_form.specs.ResultShows.{show_result}
use Rattle.cells.specs.Cells.{cell}
use Rattle.room_form.specs.Table.{job_from, slot_from}
use Rattle.rooms.proofs.put_visitor.Goals as goal

pub returns : goal.returns
returns c =
    let args = c.args in
    let from = slot_from args.slot in
    c.put_text.ensures.text
    ∙ ap (λ (xs : List ℕ). sets xs (from + job_from) (cell args.text.now))
    (c.put_reading.ensures
    ∙ ap (λ (xs : List ℕ). sets xs from (cell (show_result args.r))) c.put_number.ensures.text)
