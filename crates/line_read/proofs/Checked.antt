-- A line that is well spelled, then checked.
use Prim.Native.Nat.{ℕ, ◌-◌}
use mathlib.Core.Path.{◌≡◌, refl, sym, ap}
use mathlib.Core.List.{List}
use mathlib.Core.Bool.{Bool, true, false, cond, not}
use lib.ListN.{length, get_or}
use lib.Dec.{ltb}
use Rattle.faults.specs.declared.Fault.{Fault}
use Rattle.faults.specs.Checked.{Finding, Found}
use Rattle.digits.specs.Bytes.{digit0}
use Rattle.text.specs.Keys.{body_of}
use Rattle.term_text.specs.Terms.{one_digit}
use Rattle.reading.specs.Results.{after, passing, refuse}
use Rattle.reading.specs.Places.{line_end, line_at}
use Rattle.reading.proofs.Told.{fault-got}
use Rattle.scan.specs.Lines.{line_of, ended_and}
use Rattle.scan.specs.declared.At.{At}
use Rattle.term_read.specs.Lines.{digit_of, DigitFrom}
use Rattle.lines.specs.Lines.{misspelled, digit_is}
use Rattle.line_read.specs.At.{said, onward, line_from}
use Rattle.std.specs.Prelude.{Option, Ok, Err}
use Rattle.std.specs.Option.{ok_or}

-- ---- the check comes after the spelling

module _ {A : Type 0} (f : List ℕ → Found A) (check : A → Finding) (t : List ℕ) (a : ℕ) where
  line-passing : passing (said f t a) check ≡ said (λ l. passing (f l) check) t a
  unfolding line_at passing
  line-passing = go (ltb (line_end t a) (length t))
    where
      go : (b : Bool)
          → passing (cond b (f (line_of t a)) misspelled) check ≡ cond b (passing (f (line_of t a)) check) misspelled
      go true = refl
      go false = refl

  abbrev Line : Found (At A) → Type 0
  Line r = r ≡ line_from (said (λ l. passing (f l) check) t a) (onward t a)

  -- the line's own fault
  pub misspelled-line : {e : Fault} → Err e ≡ line_from (said f t a) (onward t a) → Line (Err e)
  unfolding passing
  misspelled-line {e} w = rw (← line-passing) (go (said f t a) w)
    where
      go : (g : Found A) → Err e ≡ line_from g (onward t a) → Err e ≡ line_from (passing g check) (onward t a)
      go (Ok x) p = fault-got p
      go (Err h) p = p

  module _ {y : At A} (w : Ok y ≡ line_from (said f t a) (onward t a)) where
    got : (g : Found A) → Ok y ≡ line_from g (onward t a) → (g ≡ Ok y.value) × (y.next ≡ onward t a)
    got (Ok x) p =
        let z : y ≡ record { value = x; next = onward t a } = cc in
        (ap Ok (sym (ap (λ (v : At A). v.value) z)), ap (λ (v : At A). v.next) z)
    got (Err h) p = fault-got (sym p)

    -- what the check finds
    pub bad-line : {e : Fault} → Err e ≡ check y.value → Line (Err e)
    unfolding passing after
    bad-line p = rw (← line-passing, (got (said f t a) w).0, ← p) refl

    pub good-line : Ok tt ≡ check y.value → Line (Ok y)
    unfolding passing after
    good-line p = rw (← line-passing, (got (said f t a) w).0, ← p, ← (got (said f t a) w).1) refl

-- ---- the spelling

-- an LF ends the line, and its bytes are well spelled: one test for both
pub odd-line : {A : Type 0} (e o : Bool) (g : Found A)
    → cond e (refuse (not o) Fault.Spelling g) misspelled ≡ cond (cond e o false) g misspelled
odd-line true true g = refl
odd-line true false g = refl
odd-line false true g = refl
odd-line false false g = refl

pub digit-line : (key t : List ℕ) (a : ℕ) {r : Option (At ℕ)} → DigitFrom key t a r
    → ok_or r Fault.Spelling ≡ line_from (said (λ l. digit_is (body_of key l)) t a) (onward t a)
unfolding line_at digit_is digit_of
digit-line key t a {r} w = rw odd-line (go (ended_and t a (one_digit body)) w)
  where
    body : List ℕ
    body = body_of key (line_of t a)

    go : (b : Bool) → r ≡ digit_of b body (line_end t a)
        → ok_or r Fault.Spelling ≡ line_from (cond b (Ok (get_or body 0 0 - digit0)) misspelled) (onward t a)
    go true p = rw p
    go false p = rw p
