-- reply_parts: what was handed over is the text.
use mathlib.Core.Path.{ap, ◌∙◌}
use Rattle.desk.specs.Desk.{job_status, job_text}
use Rattle.desk.proofs.Answer.{written-as}
use Rattle.job_parts.specs.Parts.{end_of}
use Rattle.job_parts.proofs.Whole.{text-whole}
use Rattle.answers.proofs.reply_parts.Goals as goal

pub returns : goal.returns
unfolding job_status job_text
returns c =
    written-as (ap end_of c.hand_over-p.ensures ∙ text-whole c.args.text.now)
    c.end_job.ensures
