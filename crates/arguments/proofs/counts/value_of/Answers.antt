-- `arguments::counts::value_of` meets its contract.
use Rattle.std.proofs.Common.{◌≡◌, ◌∙◌, rules}
use Rattle.std.specs.List.{fold}
use Rattle.arguments.proofs.Capped.{longer, fold-capped}
use Rattle.arguments.proofs.counts.value_of.Goals as goal

pub returns : goal.returns
returns c =
    let whole : c.fold.result ≡ fold longer 0 c.args.s.now = search rules in
    whole ∙ fold-capped c.args.s.now 0
