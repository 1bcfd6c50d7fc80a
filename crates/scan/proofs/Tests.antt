-- What the answers of tests say.
use Prim.Native.Nat.{ℕ, ◌≤◌, ◌<◌}
use mathlib.Core.Path.{◌≡◌, refl}
use mathlib.Core.List.{List}
use mathlib.Core.Bool.{Bool, true, false, ◌&&◌, true≢false, false≢true}
use lib.ListN.{length, get_or}
use lib.Dec.{leb}
use borrow.Author.Tests.{lt-ltb, le-ltb, eq-eqb, eqb-true, le-leb, leb-true}
use Rattle.digits.specs.Bytes.{digit0, digit9}
use Rattle.digits.proofs.Cases.{either}
use Rattle.reading.specs.Places.{line_end}
use Rattle.scan.specs.Fields.{is_at}
use Rattle.digits.specs.Digits.{is_digit}
use Rattle.scan.specs.Lines.{ended_and}

both : (a b : Bool) → (a && b) ≡ true → (a ≡ true) × (b ≡ true)
both true b e = (refl, e)
both false b e = absurd (false≢true e)

pub digit-yes : (b : ℕ) → is_digit b ≡ true → (digit0 ≤ b) × (b ≤ digit9)
unfolding is_digit
digit-yes b e =
    let p = both (leb digit0 b) (leb b digit9) e in
    (leb-true digit0 b p.0, leb-true b digit9 p.1)

pub digit-no : (b : ℕ) → is_digit b ≡ false → digit0 ≤ b → b ≤ digit9 → ⊥
unfolding is_digit
digit-no b e p q = true≢false (rw (le-leb digit0 b p, le-leb b digit9 q) at e)

module _ (t : List ℕ) (i b : ℕ) where
  pub at-yes : is_at t i b ≡ true → (i < length t) × (get_or t i 0 ≡ b)
  at-yes e =
      either i (length t)
      (λ h. (h, eqb-true (get_or t i 0) b (rw (lt-ltb i (length t) h) at e)))
      (λ h. absurd (false≢true (rw (le-ltb i (length t) h) at e)))

  pub at-no : is_at t i b ≡ false → i < length t → get_or t i 0 ≡ b → ⊥
  at-no e h z = true≢false (rw (lt-ltb i (length t) h, eq-eqb (get_or t i 0) b z) at e)

module _ (t : List ℕ) (from : ℕ) (ok : Bool) where
  pub not-ended : (line_end t from < length t → ok ≡ false) → ended_and t from ok ≡ false
  not-ended h =
      either (line_end t from) (length t)
      (λ l. rw (lt-ltb (line_end t from) (length t) l) (h l))
      (λ l. rw (le-ltb (line_end t from) (length t) l))

  pub is-ended : line_end t from < length t → ok ≡ true → ended_and t from ok ≡ true
  is-ended l e = rw (lt-ltb (line_end t from) (length t) l) e
