-- A term, taken where it stands, is the field that it ends.
use Prim.Native.Nat.{ℕ, ◌+◌, ◌-◌, ◌≤◌, ◌<◌}
use native.Mathlib.Omega.{arith}
use mathlib.Core.Path.{◌≡◌, refl, sym, ◌∙◌}
use mathlib.Core.List.{List}
use mathlib.Core.Bool.{Bool, true, false, cond, ◌&&◌, false≢true}
use lib.ListN.{length, get_or}
use lib.IntN.{ℤ}
use lib.Dec.{leb, eqb}
use borrow.Author.Tests.{eq-eqb, ne_eqb, le-leb, lt-leb, leb-true}
use Rattle.lists.proofs.All.{all-each}
use Rattle.digits.specs.Bytes.{digit0, digit9}
use Rattle.digits.specs.Number.{read_number}
use Rattle.digits.proofs.Cases.{either, same_or}
use Rattle.jobs.specs.Zero.{zero_term}
use Rattle.term_text.specs.Terms.{Terms}
use Rattle.term_text.specs.Terms.{colon, exponents, put_term, misspelled, add_coef, add_parts, add_term}
use Rattle.digits.specs.Digits.{is_digit, all_digits}
use Rattle.reading.specs.Places.{part}
use Rattle.scan.specs.Fields.{OnlyNumber}
use Rattle.scan.proofs.Listing.{number-here, number-other}
use Rattle.scan.proofs.Parts.{part_length, part_at, part-take, part-drop}
use Rattle.term_read.specs.Terms.{exps_of, OnlyTerm}
use Rattle.std.specs.Prelude.{Some, None, Option}

coef-bad : (acc : Terms) (v : Option ℤ) (exps : List ℕ) → v ≡ None → add_coef acc v exps ≡ misspelled acc
unfolding add_coef
coef-bad acc v exps z = rw z

coef-good : (acc : Terms) (v : Option ℤ) (c : ℤ) (exps : List ℕ) → v ≡ Some c
    → add_coef acc v exps ≡ put_term acc (record { coef = c; exps = exps })
unfolding add_coef
coef-good acc v c exps z = rw z

both_first : (a b : Bool) → a && b ≡ true → a ≡ true
both_first true b e = refl
both_first false b e = absurd (false≢true e)

pub digit_low : (b : ℕ) → is_digit b ≡ true → digit0 ≤ b
unfolding is_digit
digit_low b e = leb-true digit0 b (both_first (leb digit0 b) (leb b digit9) e)

digits_low : (s : List ℕ) (a n : ℕ) → a + n ≤ length s → all_digits (part s a (a + n)) ≡ true → (k : ℕ) → a ≤ k
    → k < a + n → digit0 ≤ get_or s k 0
unfolding all_digits
digits_low s a n l d k p q =
    let z : a + (k - a) ≡ k = omega arith in
    let w : length (part s a (a + n)) ≡ n = part_length s a (a + n) (omega arith) l ∙ omega arith in
    let e = all-each (λ i. is_digit (get_or (part s a (a + n)) i 0)) n (k - a) (omega arith) (rw w at d) in
    digit_low (get_or s k 0) (rw z at (rw (part_at s a (a + n) (k - a) (omega arith)) at e))

module _ (s : List ℕ) (a n e : ℕ) (p : a ≤ e) (q : e ≤ length s) (acc : Terms) where
  -- too short for the colon and the exponents
  short : e - a ≤ n → add_term n acc (part s a e) ≡ misspelled acc
  unfolding add_term
  short h = rw (part_length s a e p q, le-leb (e - a) n h)

  module _ (m : ℕ) (z : m + 1 + n ≡ e) (h : a ≤ m) where
    at-is : length (part s a e) - n - 1 ≡ m - a
    at-is = rw (part_length s a e p q) (omega arith)

    -- the field in its parts, with the colon's place m
    in_parts : add_term n acc (part s a e)
        ≡ cond (eqb (get_or s m 0) colon)
        (cond (all_digits (part s (m + 1) e)) (add_coef acc (read_number (part s a m)) (exponents n (part s (m + 1) e)))
        (misspelled acc))
        (misspelled acc)
    unfolding add_term add_parts
    in_parts =
        let x : a + (m - a) ≡ m = omega arith in
        let y : m + 1 - a ≡ m - a + 1 = omega arith in
        rw (
          at-is,
          part_length s a e p q,
          lt-leb (e - a) n (omega arith),
          part_at s a e (m - a) (omega arith),
          x,
          rw y at (part-drop s a e (m + 1) (omega arith) (omega arith)),
          part-take s a e m h (omega arith),
        )

module _ (s : List ℕ) (a n : ℕ) (v : ℤ) (c : ℕ) (num : OnlyNumber s a v c) where
  coef-other : (m : ℕ) → a ≤ m → m < length s → get_or s m 0 ≡ colon → (a < c → m ≡ c → ⊥)
      → read_number (part s a m) ≡ None
  coef-other m h l z o =
      number-other s a v c num m h (record { inside = omega arith; other = λ x y w. omega (arith, z, w) }) o

  -- no term: where the number ends there is no colon with n digits after it
  missed : (e : ℕ) → a ≤ e → e ≤ length s
      → (a < c → c + 1 + n ≡ e → get_or s c 0 ≡ colon → all_digits (part s (c + 1) e) ≡ true → ⊥)
      → (acc : Terms) → add_term n acc (part s a e) ≡ misspelled acc
  missed e p q o acc =
      either n (e - a)
      (λ h.
      let m = e - n - 1 in
      let z : m + 1 + n ≡ e = omega arith in
      in_parts s a n e p q acc m z (omega arith)
      ∙ same_or (get_or s m 0) colon
      (λ w. rw (eq-eqb (get_or s m 0) colon w) (digits m z (omega arith) w (all_digits (part s (m + 1) e)) refl))
      (λ w. rw (ne_eqb (get_or s m 0) colon w)))
      (short s a n e p q acc)
    where
      digits : (m : ℕ) → m + 1 + n ≡ e → a ≤ m → get_or s m 0 ≡ colon → (t : Bool) → all_digits (part s (m + 1) e) ≡ t
          → cond (all_digits (part s (m + 1) e))
          (add_coef acc (read_number (part s a m)) (exponents n (part s (m + 1) e))) (misspelled acc) ≡ misspelled
          acc
      digits m z h w true t =
          rw t (coef-bad acc (read_number (part s a m)) (exponents n (part s (m + 1) e))
          (coef-other m h (omega arith) w
          (λ g y. o g (omega arith) (rw y at w) (rw y at t))))
      digits m z h w false t = rw t

  pub no-term : a ≤ length s
      → ((e : ℕ) → e ≤ length s → a < c → c + 1 + n ≡ e → get_or s c 0 ≡ colon → all_digits (part s (c + 1) e) ≡ true
      → ⊥)
      → OnlyTerm s a n zero_term a
  no-term l o =
      record {
        after = omega arith;
        inside = l;
        none = λ x. refl;
        bytes = λ k x y. absurd (omega arith);
        field = λ h. absurd (omega arith);
        other = λ e p q x acc. missed e p q (o e q) acc;
      }

  pub one-term : a < c → c + 1 + n ≤ length s → get_or s c 0 ≡ colon → all_digits (part s (c + 1) (c + 1 + n)) ≡ true
      → OnlyTerm s a n (record { coef = v; exps = exponents n (part s (c + 1) (c + 1 + n)) }) (c + 1 + n)
  one-term h l z d =
      record {
        after = omega arith;
        inside = l;
        none = λ x. absurd (omega arith);
        bytes = λ k x y.
            either k c (λ g. num.bytes k x g)
            (λ g. same_or k c (λ w. rw w (omega (arith, z)))
            (λ w. omega (
              arith,
              digits_low s (c + 1) n l d k
                  (either c k (λ i. omega arith) (λ i. absurd (w (omega arith)))) y,
            )));
        field = λ x acc.
            in_parts s a n (c + 1 + n) (omega arith) l acc c refl (omega arith)
            ∙ rw (eq-eqb (get_or s c 0) colon z, d)
            (coef-good acc (read_number (part s a c)) v (exponents n (part s (c + 1) (c + 1 + n)))
            (number-here s a v c num h (record { inside = num.inside; other = λ x y w. omega (arith, z, w) })));
        other = λ e p q x acc. missed e p q (λ y w. absurd (x (omega arith) (sym w))) acc;
      }

-- ---- what the exponents' answer says

module _ (n : ℕ) (l : List ℕ) where
  pub exps-yes : (exps : List ℕ) → Some exps ≡ exps_of n l → (all_digits l ≡ true) × (exps ≡ exponents n l)
  unfolding exps_of
  exps-yes exps e = go (all_digits l) refl
    where
      go : (b : Bool) → all_digits l ≡ b → (all_digits l ≡ true) × (exps ≡ exponents n l)
      go true y = (y, let w : Some exps ≡ Some (exponents n l) = rw y at e in cc)
      go false y = let w : Some exps ≡ None = rw y at e in cc

  pub exps-no : None ≡ exps_of n l → all_digits l ≡ false
  unfolding exps_of
  exps-no e = go (all_digits l) refl
    where
      go : (b : Bool) → all_digits l ≡ b → all_digits l ≡ false
      go true y = let w : None ≡ Some (exponents n l) = rw y at e in cc
      go false y = y
