-- A writer's answer, told to C; and that every answer is settled.
use Prim.Native.Nat.{ℕ}
use mathlib.Core.Path.{◌≡◌, sym, ap, ◌∙◌}
use mathlib.Core.List.{List}
use Rattle.faults.specs.Checked.{Checked, Status}
use Rattle.faults.specs.Answer.{Leaves}
use Rattle.c_answers.specs.declared.Answer.{Answer}
use Rattle.c_answers.specs.Numbers.{numbers_of, Gives}

module _ {st : Status} {t old new : List ℕ} {a : Answer} where
  pub gives : {w : Checked ℕ} → Leaves st t old new w → a ≡ numbers_of w → Gives st t old new a
  gives l e = record { answer = e ∙ ap numbers_of l.answer; left = l.left }

  pub settled : {new' : List ℕ} {a' : Answer} → Gives st t old new a → Gives st t old new' a' → (a ≡ a') × (new ≡ new')
  settled p q = (p.answer ∙ sym q.answer, p.left ∙ sym q.left)
