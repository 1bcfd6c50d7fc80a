-- What a writer answers: of right values, where it has room and where it has not; and where it is refused.
use Prim.Native.Nat.{ℕ}
use mathlib.Core.Path.{◌≡◌, refl, ap, ◌∙◌}
use mathlib.Core.Bool.{Bool, true, false, cond}
use mathlib.Core.List.{List, ◌++◌}
use lib.ListN.{length, drop}
use lib.Dec.{ltb}
use Rattle.faults.specs.declared.Fault.{Fault}
use Rattle.faults.specs.declared.Refusal.{Refusal}
use Rattle.faults.specs.Checked.{Checked, Status, refused}
use Rattle.faults.specs.Checks.{is_bad}
use Rattle.faults.specs.Answer.{answer_of, left_in, Leaves}
use Rattle.std.specs.Prelude.{Ok, Err}

module _ {t old new : List ℕ} {a : Checked ℕ} (w : Leaves (Ok tt) t old new a) where
  -- it has no fault exactly where there is room
  pub room-told : is_bad a ≡ ltb (length old) (length t)
  unfolding answer_of
  room-told = ap is_bad w.answer ∙ by (ltb (length old) (length t))
    where
      by : (b : Bool) → is_bad (cond b (refused {A = ℕ} Fault.ShortBuffer 0) (Ok (length t))) ≡ b
      by true = refl
      by false = refl

  module _ (few : ltb (length old) (length t) ≡ false) where
    pub done-told : a ≡ Ok (length t)
    unfolding answer_of
    done-told = rw few at w.answer

    pub all_there : new ≡ t ++ drop (length t) old
    unfolding left_in
    all_there = rw few at w.left

-- a refusal writes nowhere
pub all-refused : (t old : List ℕ) {st : Status} {r : Refusal} → st ≡ Err r → Leaves st t old old (Err r)
unfolding answer_of left_in
all-refused t old e = rw e (record { answer = refl; left = refl })
