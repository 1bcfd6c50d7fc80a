-- `phrases::put_count` meets its contract.
use Rattle.phrases.proofs.Says.{says-count}
use Rattle.phrases.proofs.put_count.Goals as goal

pub returns : goal.returns
returns c = says-count _ c.put_magnitude.ensures
