-- How large a long number's digits can be.
use Prim.Native.Nat.{ℕ, suc, ◌+◌, ◌-◌, ◌*◌, ◌^◌, ◌≤◌, ◌<◌}
use native.Mathlib.Omega.{arith}
use native.Mathlib.Nat.{zero-add, pow-suc, pow-le-pow_right}
use mathlib.Core.Path.{◌≡◌, refl, ap, ◌∙◌}
use mathlib.Core.List.{List, [], ◌∷◌}
use mathlib.Core.Bool.{Bool, true, false, cond, false≢true}
use lib.ListN.{length, get_or}
use lib.Dec.{eqb, leb, lit<}
use lib.IntN.{pos}
use borrow.Author.Tests.{eqb-true, leb-true, le-ltb, lt-ltb}
use mir.Syntax.{w64}
use mir.Val.{SFits, to_z}
use mir.Facts.{to_z_pos}
use Rattle.lists.proofs.All.{all-each}
use Rattle.digits.specs.Bytes.{digit0, digit9}
use Rattle.digits.specs.Digits.{is_digit, all_digits}
use Rattle.digits.specs.Number.{long_max}
use Rattle.digits.proofs.Cases.{either}
use Rattle.text.proofs.Keys.{both}
use Rattle.arguments.specs.Counts.{capped, value_from, is_spelled}
use Rattle.arguments.specs.Longs.{is_long}

-- no byte is above the digits
abbrev Low : List ℕ → Type 0
Low s = (k : ℕ) → k < length s → get_or s k 0 ≤ digit9

-- v has at most j digits, and those of s come after them
value-below : (s : List ℕ) (v j : ℕ) → v < 10 ^ j → Low s → value_from v s < 10 ^ (j + length s)
unfolding value_from
value-below [] v j h l = let e : j + 0 ≡ j = omega arith in rw e h
value-below (b ∷ bs) v j h l =
    let e : j + suc (length bs) ≡ suc j + length bs = omega arith in
    let p : 10 ^ suc j ≡ 10 ^ j * 10 = pow-suc 10 j in
    let d : b ≤ digit9 = l 0 (omega arith) in
    rw e (value-below bs (v * 10 + (b - digit0)) (suc j) (omega arith) (λ k q. l (suc k) (omega arith)))

digits_low : (s : List ℕ) → all_digits s ≡ true → Low s
unfolding all_digits is_digit
digits_low s e k h =
    let b = get_or s k 0 in
    leb-true b digit9 (both (leb digit0 b) (leb b digit9) (all-each (λ i. is_digit (get_or s i 0)) (length s) k h e)).1

spelled-low : (s : List ℕ) → is_spelled s ≡ true → Low s
unfolding is_spelled
spelled-low s e = go (eqb (length s) 0) (eqb (get_or s 0 0) digit0) refl e
  where
    go : (none zero : Bool) → eqb (get_or s 0 0) digit0 ≡ zero
        → cond none false (cond zero (eqb (length s) 1) (all_digits s)) ≡ true → Low s
    go true zero z t = absurd (false≢true t)
    go false true z t = λ k h.
        let n = eqb-true (length s) 1 t in
        let f = eqb-true (get_or s 0 0) digit0 z in
        let i : k ≡ 0 = omega arith in
        rw i (omega arith)
    go false false z t = digits_low s t

long-below : (s : List ℕ) → is_long s ≡ true → value_from 0 s < 10 ^ long_max
unfolding is_long
long-below s e =
    either long_max (length s)
    (λ h. absurd (false≢true (rw (lt-ltb long_max (length s) h) at e)))
    (λ h.
    let v = rw zero-add at (value-below s 0 0 (lit< tt) (spelled-low s (rw (le-ltb long_max (length s) h) at e))) in
    omega (arith, pow-le-pow_right {n = 10} (lit< tt) {i = length s} {j = long_max} h))

-- what is held of a long number is all of it
pub record Long (s : List ℕ) (m : ℕ) : Type 0 where
  pub whole : m ≡ value_from 0 s
  pub small : m < 10 ^ long_max

pub long-held : {s : List ℕ} {m : ℕ} → is_long s ≡ true → m ≡ capped (value_from 0 s) → Long s m
long-held {s} e h = let b = long-below s e in record { whole = omega arith; small = omega arith }

module _ {s : List ℕ} {m : ℕ} (l : Long s m) where
  pub long-fits : SFits w64 (pos m)
  long-fits = record { sfits = omega arith }

  pub long-up : to_z w64 m ≡ pos (value_from 0 s)
  long-up = to_z_pos w64 (omega arith) ∙ ap pos l.whole
