use mathlib.Core.Path.{◌∙◌}
use Rattle.text.proofs.Slices.{same_so}
use Rattle.text.proofs.same_bytes.Goals as goal

pub returns : goal.returns
returns c = c.eq.ensures ∙ same_so c.args.l.now c.args.word.now
