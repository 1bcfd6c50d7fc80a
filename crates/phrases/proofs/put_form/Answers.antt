-- `phrases::put_form` meets its contract.
use native.Mathlib.Omega.{arith}
use Rattle.phrases.proofs.Says.{says-most}
use Rattle.phrases.proofs.put_form.Goals as goal

pub returns-in-Number : goal.returns-in-Number
returns-in-Number c =
    rw c.in-Number.is
    (says-most _ (omega arith) c.say.ensures)

pub returns-in-Kind : goal.returns-in-Kind
returns-in-Kind c =
    rw c.in-Kind.is
    (says-most _ (omega arith) c.say-in-Kind.ensures)

pub returns-in-Unknowns : goal.returns-in-Unknowns
returns-in-Unknowns c =
    rw c.in-Unknowns.is
    (says-most _ (omega arith) c.say-in-Unknowns.ensures)

pub returns-in-Steps : goal.returns-in-Steps
returns-in-Steps c =
    rw c.in-Steps.is
    (says-most _ (omega arith) c.say-in-Steps.ensures)

pub returns-in-Visit : goal.returns-in-Visit
returns-in-Visit c =
    rw c.in-Visit.is
    (says-most _ (omega arith) c.say-in-Visit.ensures)

pub returns-in-Verdict : goal.returns-in-Verdict
returns-in-Verdict c =
    rw c.in-Verdict.is
    (says-most _ (omega arith) c.say-in-Verdict.ensures)

pub returns-in-Low : goal.returns-in-Low
returns-in-Low c =
    rw c.in-Low.is
    (says-most _ (omega arith) c.say-in-Low.ensures)

pub returns-in-Nothing : goal.returns-in-Nothing
returns-in-Nothing c =
    rw c.in-Nothing.is
    (says-most _ (omega arith) c.say-in-Nothing.ensures)
