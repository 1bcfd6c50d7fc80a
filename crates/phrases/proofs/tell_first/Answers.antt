-- `phrases::tell_first` meets its contract.
use Rattle.phrases.proofs.Says.{says_then}
use Rattle.phrases.proofs.tell_first.Goals as goal

pub returns : goal.returns
returns c =
    says_then c.put_count-a.ensures c.say.ensures
