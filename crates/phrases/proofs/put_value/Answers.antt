-- `phrases::put_value` meets its contract.
use native.Mathlib.Omega.{arith}
use mir.Facts.{to_z-of_z}
use mathlib.Core.Path.{sym, ◌∙◌}
use Rattle.sizes.specs.Sizes.{number_max}
use Rattle.term_checks.proofs.RangeLaws.{is_within_lem}
use Rattle.phrases.specs.Words.{value_words}
use Rattle.phrases.proofs.Says.{says-number, says_none}
use Rattle.phrases.proofs.put_value.Goals as goal

pub put_number-requires : goal.put_number-requires
put_number-requires c =
    let e = to_z-of_z c.ranges.v in
    let near = is_within_lem c.args.v number_max (rw e at (sym c.within.ensures ∙ c.if-within.true)) in
    rw e (omega arith, omega (arith, c.requires), omega (arith, near.abs))

pub returns-then-within : goal.returns-then-within
unfolding value_words
returns-then-within c =
    let e = to_z-of_z c.ranges.v in
    rw (rw e at (sym c.within.ensures ∙ c.if-within.true))
    (says-number _ (rw e at c.put_number.ensures))

pub returns-else-within : goal.returns-else-within
unfolding value_words
returns-else-within c =
    let e = to_z-of_z c.ranges.v in
    rw (rw e at (sym c.within.ensures ∙ c.if-within.false)) (says_none _ _ _)
