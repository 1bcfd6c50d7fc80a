-- `answers::tell_in` meets its contract.
use Rattle.answers.proofs.Told.{told-min, told-fault}
use Rattle.answers.proofs.tell_in.Goals as goal

pub returns-in-Ok : goal.returns-in-Ok
returns-in-Ok c = rw (c.in-Ok.is, c.min.ensures) (told-min _ c.requires _)

pub returns-in-Err : goal.returns-in-Err
returns-in-Err c = rw c.in-Err.is (told-fault _ c.requires _ c.put_fault.ensures)
