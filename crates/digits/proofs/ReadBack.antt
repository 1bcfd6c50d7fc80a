-- A number that is written is read back.
use Prim.Native.Nat.{ℕ, zero, suc, ◌+◌, ◌-◌, ◌*◌, ◌/◌, ◌%◌, ◌^◌, ◌≤◌, ◌<◌}
use native.Mathlib.Omega.{arith}
use mathlib.Core.Path.{◌≡◌, refl, ap, ◌∙◌}
use mathlib.Core.List.{List, [], ◌∷◌, ◌++◌}
use mathlib.Core.Bool.{Bool, true, false, cond}
use lib.ListN.{length, get_or, get_or-append}
use lib.Dec.{ltb}
use lib.IntN.{ℤ, pos, negsuc, nat_abs}
use borrow.Author.Tests.{le-ltb, ne_eqb}
use Rattle.digits.specs.Bytes.{digit0, digit9, minus_sign}
use Rattle.digits.specs.Number.{digits_max, digits_from, read_magnitude, with_minus, without_minus, read_number}
use Rattle.digits.specs.Show.{show_magnitude, show_signed, show_number}
use Rattle.digits.proofs.Cases.{either}
use Rattle.digits.proofs.Show.{show-low, show-high, show-long, show-short, tenth-below}
use Rattle.std.specs.Prelude.{Some, None, Option}

-- what is read so far, and then ys
after : Option ℕ → List ℕ → Option ℕ
after (Some u) ys = digits_from u ys
after None ys = None

after-cond : (t : Bool) (x : Option ℕ) (ys : List ℕ)
    → after (cond t None x) ys ≡ cond t None (after x ys)
unfolding after
after-cond true x ys = refl
after-cond false x ys = refl

digits_append : (v : ℕ) (xs ys : List ℕ) → digits_from v (xs ++ ys) ≡ after (digits_from v xs) ys
unfolding digits_from after
digits_append v [] ys = refl
digits_append v (b ∷ xs) ys =
    rw (after-cond (ltb b digit0), after-cond (ltb digit9 b), digits_append (v * 10 + (b - digit0)) xs ys)

digit-one : (v d : ℕ) → d < 10 → digits_from v ((digit0 + d) ∷ []) ≡ Some (v * 10 + d)
unfolding digits_from
digit-one v d h =
    let e : digit0 + d - digit0 ≡ d = omega arith in
    rw (le-ltb (digit0 + d) digit0 (omega arith), le-ltb digit9 (digit0 + d) (omega arith), e)

few : (k m : ℕ) → m < 10 → digits_from 0 (show_magnitude (suc k) m) ≡ Some m
few k m q = rw (show-low k m q) (digit-one 0 m q ∙ ap Some (omega arith))

more : (k m : ℕ) → digits_from 0 (show_magnitude k (m / 10)) ≡ Some (m / 10) → 10 ≤ m
    → digits_from 0 (show_magnitude (suc k) m) ≡ Some m
unfolding after
more k m ih q =
    rw (show-high k m q, digits_append 0 (show_magnitude k (m / 10)), ih)
    (digit-one (m / 10) (m % 10) (omega arith) ∙ ap Some (omega arith))

pub digits-back : (k m : ℕ) → m < 10 ^ suc k → digits_from 0 (show_magnitude (suc k) m) ≡ Some m
digits-back zero m h = few zero m (omega arith)
digits-back (suc k) m h =
    either m 10 (few (suc k) m) (more (suc k) m (digits-back k (m / 10) (tenth-below (suc k) m h)))

-- the first byte is a digit, and no 0 unless the number is 0
first : (k m : ℕ) → m < 10 ^ suc k
    → (digit0 ≤ get_or (show_magnitude (suc k) m) 0 0) × (1 ≤ m → digit0 < get_or (show_magnitude (suc k) m) 0 0)
first zero m h = rw (show-low zero m (omega arith)) (omega arith, λ q. omega arith)
first (suc k) m h =
    let ih = first k (m / 10) (tenth-below (suc k) m h) in
    let l = show-long k (m / 10) in
    either m 10
    (λ p. rw (show-low (suc k) m p) (omega arith, λ q. omega arith))
    (λ p.
    rw (show-high (suc k) m p, get_or-append (show_magnitude (suc k) (m / 10)) ((digit0 + m % 10) ∷ []) 0 0 l)
    (ih.0, λ q. ih.1 (omega arith)))

pub magnitude-back : (m : ℕ) → m < 10 ^ digits_max → read_magnitude (show_magnitude digits_max m) ≡ Some m
unfolding read_magnitude
magnitude-back m h =
    let t = show_magnitude digits_max m in
    let f = first 8 m h in
    either m 1
    (λ p. let e : m ≡ 0 = omega arith in rw (e, show-low 8 0 (omega arith)))
    (λ p.
    let g = f.1 p in
    rw (
      ne_eqb (length t) 0 (omega (arith, show-long 8 m)),
      le-ltb digits_max (length t) (show-short digits_max m),
      ne_eqb (get_or t 0 0) digit0 (omega arith),
    )
    (digits-back 8 m h))

pub number-back : (v : ℤ) → nat_abs v < 10 ^ digits_max → read_number (show_number v) ≡ Some v
unfolding read_number show_signed without_minus with_minus
number-back (pos m) h =
    let t = show_magnitude digits_max m in
    let f = first 8 m h in
    rw (
      ne_eqb (length t) 0 (omega (arith, show-long 8 m)),
      ne_eqb (get_or t 0 0) minus_sign (omega arith),
      magnitude-back m h,
    )
number-back (negsuc m) h =
    rw (
      ne_eqb (suc (length (show_magnitude digits_max (suc m)))) 0 (omega arith),
      magnitude-back (suc m) h,
      ne_eqb (suc m) 0 (omega arith),
    )
