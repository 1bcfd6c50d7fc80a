-- What is made of a reader's answer is made of its equal.
use Prim.Native.Nat.{ℕ}
use mathlib.Core.Path.{◌≡◌, subst}
use mathlib.Core.List.{List}
use Rattle.faults.specs.Checked.{Checked}
use Rattle.faults.specs.Answer.{Leaves}
use Rattle.jobs.specs.declared.Job.{Job}
use Rattle.desk.specs.Desk.{written_status, written_text}

pub written-as : {r s : Checked Job} {old new : List ℕ} {a : Checked ℕ} → r ≡ s
    → Leaves (written_status r) (written_text r) old new a → Leaves (written_status s) (written_text s) old new a
written-as {r} {s} {old} {new} {a} e l =
    subst (λ (x : Checked Job). Leaves (written_status x) (written_text x) old new a) e l
