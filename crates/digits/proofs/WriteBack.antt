-- A number that is read is written as it stood.
use Prim.Native.Nat.{ℕ, zero, suc, ◌+◌, ◌-◌, ◌*◌, ◌/◌, ◌%◌, ◌≤◌}
use native.Mathlib.Omega.{arith}
use native.Mathlib.Nat.{zero-add}
use mathlib.Core.Path.{◌≡◌, refl, sym, ap, ◌∙◌}
use mathlib.Core.List.{List, [], ◌∷◌, ◌++◌, append_assoc, append-nil}
use lib.ListN.{length}
use lib.IntN.{ℤ, pos, negsuc}
use borrow.Author.Tests.{lt-ltb, le-ltb, eq-eqb, ne_eqb}
use Rattle.digits.specs.Bytes.{digit0, digit9, minus_sign}
use Rattle.digits.specs.Number.{digits_max, digits_from, read_magnitude, with_minus, without_minus, read_number}
use Rattle.digits.specs.Show.{show_magnitude, show_signed, show_number}
use Rattle.digits.proofs.Cases.{either, same_or}
use Rattle.digits.proofs.Show.{show-low, show-high}
use Rattle.std.specs.Prelude.{Some, None, Option}

bad-is : {A : Type 0} (m : ℕ) → None ≡ Some m → A
bad-is m e = absurd (let z : ◌≡◌ {A = ℕ} 0 1 = cc in omega arith)

is-inj : (a b : ℕ) → Some a ≡ Some b → a ≡ b
is-inj a b e = cc

-- what passes the two tests is a digit, and the reading goes on
digit-is : (v m b : ℕ) (bs : List ℕ) → digits_from v (b ∷ bs) ≡ Some m
    → (digit0 ≤ b) × (b ≤ digit9) × (digits_from (v * 10 + (b - digit0)) bs ≡ Some m)
unfolding digits_from
digit-is v m b bs e =
    either b digit0
    (λ p. bad-is m (rw (lt-ltb b digit0 p) at e))
    (λ p.
    either digit9 b
    (λ q. bad-is m (rw (le-ltb b digit0 p, lt-ltb digit9 b q) at e))
    (λ q. (p, q, rw (le-ltb b digit0 p, le-ltb digit9 b q) at e)))

-- the digits ds after the number v, of which j digits are shown
show-after : (j v m : ℕ) (ds : List ℕ) → 1 ≤ v → digits_from v ds ≡ Some m
    → show_magnitude (length ds + j) m ≡ show_magnitude j v ++ ds
unfolding digits_from
show-after j v m [] p e = rw (is-inj v m e, zero-add) (sym (append-nil (show_magnitude j m)))
show-after j v m (b ∷ ds) p e =
    let d = digit-is v m b ds e in
    let w : ℕ = v * 10 + (b - digit0) in
    let ih = show-after (suc j) w m ds (omega arith) d.2 in
    let q : w / 10 ≡ v = omega arith in
    let r : digit0 + w % 10 ≡ b = omega arith in
    let n : suc (length ds) + j ≡ length ds + suc j = omega arith in
    rw n (ih ∙ rw (show-high j w (omega arith), q, r, append_assoc (show_magnitude j v) (b ∷ []) ds))

no_more : (bs : List ℕ) → length bs ≤ 0 → bs ≡ []
no_more [] h = refl
no_more (b ∷ bs) h = absurd (omega arith)

-- digits that begin with no 0
lead : (m b : ℕ) (bs : List ℕ) → suc (length bs) ≤ digits_max → (b ≡ digit0 → ⊥)
    → digits_from 0 (b ∷ bs) ≡ Some m
    → show_magnitude digits_max m ≡ b ∷ bs
lead m b bs h n e =
    let d = digit-is 0 m b bs e in
    let v : ℕ = 0 * 10 + (b - digit0) in
    let j : ℕ = digits_max - suc (length bs) in
    let f : length bs + suc j ≡ digits_max = omega arith in
    let g : digit0 + v ≡ b = omega arith in
    rw (← f) (show-after (suc j) v m bs (omega arith) d.2 ∙ rw (show-low j v (omega arith), g))

magnitude-was : (ds : List ℕ) (m : ℕ) → read_magnitude ds ≡ Some m → show_magnitude digits_max m ≡ ds
unfolding read_magnitude
magnitude-was [] m e = bad-is m e
magnitude-was (b ∷ bs) m e =
    let n : ℕ = suc (length bs) in
    let some = ne_eqb n 0 (omega arith) in
    either digits_max n
    (λ p. bad-is m (rw (some, lt-ltb digits_max n p) at e))
    (λ p.
    same_or b digit0
    (λ q.
    either 1 n
    (λ r. bad-is m (rw (some, le-ltb digits_max n p, eq-eqb b digit0 q, lt-ltb 1 n r) at e))
    (λ r.
    let z : 0 ≡ m = is-inj 0 m (rw (some, le-ltb digits_max n p, eq-eqb b digit0 q, le-ltb 1 n r) at e) in
    rw (← z, q, no_more bs (omega arith)) (show-low 8 0 (omega arith))))
    (λ q. lead m b bs p q (rw (some, le-ltb digits_max n p, ne_eqb b digit0 q) at e)))

none_is : {A : Type 0} (v : ℤ) → None ≡ Some v → A
none_is v e = absurd (let z : ◌≡◌ {A = ℕ} 0 1 = cc in omega arith)

number-inj : (a b : ℤ) → Some a ≡ Some b → a ≡ b
number-inj a b e = cc

minus-was : (bs : List ℕ) (v : ℤ) (x : Option ℕ)
    → read_magnitude bs ≡ x → with_minus x ≡ Some v → show_number v ≡ minus_sign ∷ bs
unfolding with_minus show_signed
minus-was bs v None e f = none_is v f
minus-was bs v (Some zero) e f = none_is v f
minus-was bs v (Some (suc m)) e f =
    rw (← number-inj (negsuc m) v (rw (ne_eqb (suc m) 0 (omega arith)) at f))
    (ap (λ (l : List ℕ). minus_sign ∷ l) (magnitude-was bs (suc m) e))

plain-was : (bs : List ℕ) (v : ℤ) (x : Option ℕ)
    → read_magnitude bs ≡ x → without_minus x ≡ Some v → show_number v ≡ bs
unfolding without_minus show_signed
plain-was bs v None e f = none_is v f
plain-was bs v (Some m) e f = rw (← number-inj (pos m) v f) (magnitude-was bs m e)

pub number-was : (f : List ℕ) (v : ℤ) → read_number f ≡ Some v → show_number v ≡ f
unfolding read_number
number-was [] v e = none_is v e
number-was (b ∷ bs) v e =
    let some = ne_eqb (suc (length bs)) 0 (omega arith) in
    same_or b minus_sign
    (λ q. rw q (minus-was bs v (read_magnitude bs) refl (rw (some, eq-eqb b minus_sign q) at e)))
    (λ n. plain-was (b ∷ bs) v (read_magnitude (b ∷ bs)) refl (rw (some, ne_eqb b minus_sign n) at e))
