-- The one digit of a line.
use Prim.Native.Nat.{ℕ, ◌+◌, ◌-◌, ◌≤◌, ◌<◌}
use native.Mathlib.Omega.{arith}
use mathlib.Core.Path.{◌≡◌, refl, sym, ap, ◌∙◌}
use mathlib.Core.List.{List, [], ◌∷◌}
use mathlib.Core.Bool.{Bool, true, false, ◌&&◌}
use lib.ListN.{length, drop, get_or}
use borrow.Author.Tests.{ne_eqb}
use Rattle.lists.specs.Loops.{all_b}
use Rattle.digits.specs.Bytes.{line_feed, digit0}
use Rattle.digits.proofs.Cases.{same_or}
use Rattle.text.specs.Keys.{starts_with}
use Rattle.term_text.specs.Terms.{one_digit}
use Rattle.digits.specs.Digits.{is_digit, all_digits}
use Rattle.reading.specs.Places.{line_end}
use Rattle.reading.proofs.Ends.{line-end}
use Rattle.scan.specs.Fields.{is_at}
use Rattle.scan.specs.Lines.{line_of, ended_and, no_feed}
use Rattle.scan.proofs.Parts.{part_length, part_none, part-cons}
use Rattle.scan.proofs.Tests.{at-yes, at-no, not-ended, is-ended}
use Rattle.scan.proofs.Counting.{ends_at}
use Rattle.scan.proofs.Keyed.{key-long, no_body, same_end, body_at}
use Rattle.scan.specs.declared.At.{At}
use Rattle.std.specs.Prelude.{Option, Some, None}
use Rattle.term_read.specs.Lines.{digit_of, DigitOf, DigitFrom}
use Rattle.term_read.proofs.Single.{digit_low}

one_byte : (b : ℕ) → one_digit (b ∷ []) ≡ is_digit b
unfolding one_digit all_digits all_b
one_byte b = go (is_digit b)
  where
    go : (t : Bool) → true && t ≡ t
    go true = refl
    go false = refl

other_length : (l : List ℕ) → (length l ≡ 1 → ⊥) → one_digit l ≡ false
unfolding one_digit
other_length l n = rw (ne_eqb (length l) 1 n)

empty : one_digit [] ≡ false
empty = other_length [] (λ z. omega (arith, z))

module _ (t : List ℕ) (a : ℕ) (h : a ≤ length t) where
  line-one : line_end t a ≡ a + 1 → line_end t a ≤ length t → line_of t a ≡ get_or t a 0 ∷ []
  line-one z l =
      part-cons t a (line_end t a) (omega arith) l
      ∙ ap (λ (x : List ℕ). get_or t a 0 ∷ x) (part_none t (a + 1) (line_end t a) (omega arith))

  not-one : (a < length t → is_digit (get_or t a 0) ≡ true → is_at t (a + 1) line_feed ≡ false)
      → ended_and t a (one_digit (line_of t a)) ≡ false
  not-one n =
      not-ended t a (one_digit (line_of t a))
      (λ l.
      let p = line-end t a h in
      same_or (line_end t a) (a + 1)
      (λ z. rw (line-one z p.inside, one_byte) (go z l (is_digit (get_or t a 0)) refl))
      (λ z. other_length (line_of t a)
      (λ w. z (omega (arith, w, p.after, part_length t a (line_end t a) p.after p.inside)))))
    where
      go : line_end t a ≡ a + 1 → line_end t a < length t → (b : Bool) → is_digit (get_or t a 0) ≡ b → b ≡ false
      go z l true e =
          let p = line-end t a h in
          absurd (at-no t (a + 1) line_feed (n (omega arith) e) (omega arith) (rw (← z) (p.ends l)))
      go z l false e = refl

  is_one : a < length t → is_digit (get_or t a 0) ≡ true → is_at t (a + 1) line_feed ≡ true
      → DigitOf (line_of t a) t a (Some (record { value = get_or t a 0 - digit0; next = a + 2 }))
  unfolding digit_of
  is_one l d z =
      let y = at-yes t (a + 1) line_feed z in
      let b : ((k : ℕ) → a ≤ k → k < a + 1 → line_feed < get_or t k 0) =
      λ k p q. let w : k ≡ a = omega arith in rw w (omega (arith, digit_low (get_or t a 0) d)) in
      let w = sym (ends_at t a (a + 1) (omega arith) b z) in
      let o = line-one w (omega (arith, y.0)) in
      rw (o, is-ended t a (one_digit (get_or t a 0 ∷ [])) (omega (arith, y.0)) (one_byte (get_or t a 0) ∙ d), w)
      (ap (λ (i : ℕ). Some (record { value = get_or t a 0 - digit0; next = i })) (omega arith))

module _ (t key : List ℕ) (from : ℕ) (h : from ≤ length t) where
  pub other_key : starts_with key (drop from t) ≡ false → DigitFrom key t from None
  unfolding digit_of
  other_key z = rw (no_body t key from h z, not-ended t from (one_digit []) (λ l. empty)) refl

  module _ (a : no_feed key ≡ true) (y : starts_with key (drop from t) ≡ true) where
    keyed : {r : Option (At ℕ)} → DigitOf (line_of t (from + length key)) t (from + length key) r
        → DigitFrom key t from r
    keyed e = rw (body_at t key from h a y, ← same_end t key from h a y) e

    pub no_digit : (from + length key < length t → is_digit (get_or t (from + length key) 0) ≡ true
        → is_at t (from + length key + 1) line_feed ≡ false) → DigitFrom key t from None
    unfolding digit_of
    no_digit n = keyed (rw (not-one t (from + length key) (key-long t key from h y) n) refl)

    pub one-digit : from + length key < length t → is_digit (get_or t (from + length key) 0) ≡ true
        → is_at t (from + length key + 1) line_feed ≡ true
        → DigitFrom key t from
        (Some (record { value = get_or t (from + length key) 0 - digit0; next = from + length key + 2 }))
    one-digit l d z = keyed (is_one t (from + length key) (key-long t key from h y) l d z)
