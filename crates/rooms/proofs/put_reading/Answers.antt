-- `rooms::put_reading` meets its contract.
use mathlib.Core.Path.{◌∙◌}
use Rattle.result_form.specs.ResultShows.{show_result}
use Rattle.room_form.proofs.PutReading.{reading-short, put-law}
use Rattle.rooms.proofs.put_reading.Goals as goal

pub returns : goal.returns
returns c =
    rw c.unwrap_or-len.ensures at c.put_number.ensures.text
    ∙ put-law c.args.table.now c.args.at (show_result c.args.r) c.requires.0
    (reading-short c.args.r c.requires.1.1) _ _ c.write_ready.ensures
