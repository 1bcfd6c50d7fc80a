-- `arguments::lengths::are_lengths` meets its contract.
use borrow.Author.Rules.{rules}
use borrow.Author.Tests.{tests}
use mathlib.Core.Path.{◌∙◌}
use lib.Dec.{eqb}
use Rattle.std.proofs.lemmas.Iterator.Search.{all_from_yields_List}
use Rattle.std.proofs.lemmas.Iterator.Splits.{YieldsList-from_slice_split}
use Rattle.digits.specs.Bytes.{comma}
use Rattle.arguments.specs.Counts.{is_spelled}
use Rattle.arguments.proofs.Splits.{lengths-split}
use Rattle.arguments.proofs.lengths.are_lengths.Goals as goal

pub returns : goal.returns
returns c =
    let s = c.args.s.now in
    let split = c.split.ensures in
    all_from_yields_List is_spelled _ _ c.all.result c.all.ensures.ran
    (YieldsList-from_slice_split _ (λ b. eqb b comma) s split.rest split.done split.closure
    (λ x b q k. search (rules, tests)))
    (λ x b q k. search (rules, tests))
    ∙ lengths-split s
