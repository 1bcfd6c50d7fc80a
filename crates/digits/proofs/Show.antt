-- Laws of written digits.
use Prim.Native.Nat.{ℕ, zero, suc, ◌+◌, ◌*◌, ◌/◌, ◌%◌, ◌^◌, ◌≤◌, ◌<◌}
use native.Mathlib.Omega.{arith}
use native.Mathlib.Nat.{pow-suc, one-le-pow, div-lt_iff_lt-mul}
use mathlib.Core.Path.{◌≡◌, refl, ◌∙◌}
use mathlib.Core.List.{[], ◌∷◌, ◌++◌}
use lib.ListN.{length, length-append}
use lib.Dec.{lit<}
use lib.IntN.{ℤ, pos, negsuc, nat_abs}
use borrow.Author.Tests.{lt-ltb, le-ltb}
use Rattle.digits.specs.Bytes.{digit0}
use Rattle.digits.specs.Show.{show_magnitude, show_signed}
use Rattle.digits.proofs.Cases.{either}

pub show-low : (k m : ℕ) → m < 10 → show_magnitude (suc k) m ≡ (digit0 + m) ∷ []
unfolding show_magnitude
show-low k m h = rw (lt-ltb m 10 h)

pub show-high : (k m : ℕ) → 10 ≤ m → show_magnitude (suc k) m ≡ show_magnitude k (m / 10) ++ ((digit0 + m % 10) ∷ [])
unfolding show_magnitude
show-high k m h = rw (le-ltb m 10 h)

pub show-long : (k m : ℕ) → 0 < length (show_magnitude (suc k) m)
show-long k m =
    either m 10
    (λ p. rw (show-low k m p) (omega arith))
    (λ p. rw (show-high k m p, length-append) (omega arith))

pub show-short : (k m : ℕ) → length (show_magnitude k m) ≤ k
unfolding show_magnitude
show-short zero m = omega arith
show-short (suc k) m =
    let h = show-short k (m / 10) in
    either m 10
    (λ p. rw (lt-ltb m 10 p) (omega arith))
    (λ p. rw (le-ltb m 10 p, length-append) (omega arith))

-- a minus and k digits
pub number_short : (k : ℕ) (v : ℤ) → length (show_signed k v) ≤ k + 1
unfolding show_signed
number_short k (pos m) = omega (arith, show-short k m)
number_short k (negsuc m) = omega (arith, show-short k (suc m))

-- a tenth of m against the power below
pub tenth-below : (j m : ℕ) → m < 10 ^ suc j → m / 10 < 10 ^ j
tenth-below j m h = (div-lt_iff_lt-mul {k = 10} {x = m} {y = 10 ^ j} (lit< tt)).1 (rw pow-suc at h)

tenth-from : (j m : ℕ) → 10 ^ suc j ≤ m → 10 ^ j ≤ m / 10
tenth-from j m h = let e : 10 ^ suc j ≡ 10 ^ j * 10 = pow-suc 10 j in omega arith

-- how many digits are written: more than j from 10 ^ j on, and one in any case; at most j below 10 ^ j
pub show-over : (k j m : ℕ) → j < k → (0 < j → 10 ^ j ≤ m) → j < length (show_magnitude k m)
show-over zero j m l h = absurd (omega arith)
show-over (suc k) zero m l h = show-long k m
show-over (suc k) (suc j) m l h =
    let t = tenth-from j m (h (omega arith)) in
    let more = show-over k j (m / 10) (omega arith) (λ p. t) in
    either m 10
    (λ p. absurd (omega (arith, one-le-pow j 10 (lit< tt))))
    (λ p. rw (show-high k m p, length-append) (omega arith))

pub show-under : (k j m : ℕ) → m < 10 ^ suc j → length (show_magnitude k m) ≤ suc j
show-under zero j m h = omega (arith, show-short zero m)
show-under (suc k) zero m h = rw (show-low k m h) (omega arith)
show-under (suc k) (suc j) m h =
    let less = show-under k j (m / 10) (tenth-below (suc j) m h) in
    either m 10
    (λ p. rw (show-low k m p) (omega arith))
    (λ p. rw (show-high k m p, length-append) (omega arith))

-- a minus and as many digits as there are
pub number-under : (k j : ℕ) (v : ℤ) → nat_abs v < 10 ^ suc j → length (show_signed k v) ≤ suc j + 1
unfolding show_signed
number-under k j (pos m) h = omega (arith, show-under k j m h)
number-under k j (negsuc m) h = omega (arith, show-under k j (suc m) h)

-- as many digits as there are show all of them
pub show-full : (k m : ℕ) → show_magnitude (length (show_magnitude k m)) m ≡ show_magnitude k m
unfolding show_magnitude
show-full zero m = refl
show-full (suc k) m =
    let d = show_magnitude k (m / 10) in
    let n : length d + 1 ≡ suc (length d) = omega arith in
    either m 10
    (λ p. rw (show-low k m p) (show-low 0 m p))
    (λ p. rw (show-high k m p, length-append, n) (show-high (length d) m p ∙ rw (show-full k (m / 10))))

-- the last of suc j digits, and those before it
pub show-last : (j m : ℕ) → length (show_magnitude (suc j) m) ≡ suc j
    → show_magnitude (suc j) m ≡ show_magnitude j (m / 10) ++ ((digit0 + m % 10) ∷ [])
unfolding show_magnitude
show-last j m h =
    either m 10
    (λ p.
    let z : j ≡ 0 = omega (arith, rw (show-low j m p) at h) in
    let d : m % 10 ≡ m = omega arith in
    show-low j m p ∙ rw (z, d))
    (λ p. show-high j m p)
