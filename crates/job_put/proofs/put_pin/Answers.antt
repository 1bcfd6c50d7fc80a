-- `job_put::put_pin` meets its contract: the pin's line, or none.
use mathlib.Core.Path.{◌≡◌, sym, ap, ◌∙◌}
use mathlib.Core.List.{[], ◌∷◌}
use mathlib.Core.Bool.{Bool, cond}
use Rattle.text.specs.Cut.{end_each}
use Rattle.text.specs.Words.{pin_key}
use Rattle.reading.specs.Lines.{bytes}
use Rattle.lines.specs.Texts.{count_text}
use Rattle.writing.proofs.Wrote.{wrote_none, wrote_as, wrote-last}
use Rattle.jobs.specs.declared.Job.{Job}
use Rattle.job_form.specs.JobBytes.{pin_written}
use Rattle.job_put.specs.Parts.{pin_texts}
use Rattle.job_put.proofs.put_pin.Goals as goal

texts-by : (j : Job) {b : Bool} → pin_written j ≡ b
    → bytes (cond b (count_text pin_key j.head.pin ∷ []) []) ≡ bytes (pin_texts j)
texts-by j e =
    ap (λ (b : Bool). bytes (cond b (count_text pin_key j.head.pin ∷ []) [])) (sym e)

pub returns-then-pin_written : goal.returns-then-pin_written
returns-then-pin_written c =
    wrote_as (texts-by c.args.j (sym c.pin_written.ensures ∙ c.if-pin_written.true))
    (wrote-last _ c.put_count_line.ensures)

pub returns : goal.returns
unfolding end_each
returns c =
    wrote_as (texts-by c.args.j (sym c.pin_written.ensures ∙ c.if-pin_written.false))
    (wrote_none _ _)
