-- `sentences::values::put_crossing` meets its contract.
use native.Mathlib.Omega.{arith}
use mir.Syntax.{w64}
use mir.Val.{SFits}
use mir.Facts.{to_z-of_z}
use borrow.Author.Rules.{rules}
use Rattle.phrases.proofs.Says.{says-most, says_then}
use Rattle.sentences.proofs.values.put_crossing.Goals as goal

pub returns : goal.returns
returns c =
    let low : SFits w64 c.args.at.low = search rules in
    let high : SFits w64 c.args.at.high = search rules in
    says-most _ (omega arith) (says_then (says_then (says_then c.tell-a.ensures
    (rw (to_z-of_z high) at c.put_value-b.ensures)) c.say-c.ensures)
    (rw (to_z-of_z low) at c.put_value.ensures))
