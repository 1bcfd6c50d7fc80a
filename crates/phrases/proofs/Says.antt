-- Parts of a sentence, one after the other.
use Prim.Native.Nat.{ℕ, ◌+◌, ◌≤◌}
use native.Mathlib.Omega.{arith}
use mathlib.Core.Path.{◌≡◌}
use mathlib.Core.List.{List, [], ◌++◌}
use lib.ListN.{length}
use lib.IntN.{ℤ}
use Rattle.digits.specs.Number.{digits_max}
use Rattle.digits.specs.Show.{show_magnitude, show_number}
use Rattle.digits.proofs.Show.{show-short, number_short}
use Rattle.writing.specs.Wrote.{Wrote}
use Rattle.writing.proofs.Wrote.{wrote-append, wrote_none}
use Rattle.phrases.specs.Says.{Says, value_most}
use Rattle.phrases.specs.Words.{count_digits, count_words}

-- words, of which there are so many
pub says-words : {x y : List ℕ} {at r : ℕ} {bs : List ℕ} → Wrote x y at r bs → Says (length bs) x y at r bs
says-words w = record { wrote = w; near = omega (arith, w.next) }

pub says_then : {m k : ℕ} {x y z : List ℕ} {at r s : ℕ} {a b : List ℕ} → Says m x y at r a → Says k y z r s b
    → Says (m + k) x z at s (a ++ b)
says_then p q = record { wrote = wrote-append p.wrote q.wrote; near = omega (arith, p.near, q.near) }

-- a looser bound
pub says-most : {m : ℕ} (most : ℕ) {x y : List ℕ} {at r : ℕ} {bs : List ℕ} → m ≤ most → Says m x y at r bs
    → Says most x y at r bs
says-most most h p = record { wrote = p.wrote; near = omega (arith, p.near, h) }

pub says_none : (most : ℕ) (x : List ℕ) (at : ℕ) → Says most x x at at []
says_none most x at = record { wrote = wrote_none x at; near = omega arith }

pub says-count : (m : ℕ) {x y : List ℕ} {at r : ℕ} → Wrote x y at r (show_magnitude count_digits m)
    → Says count_digits x y at r (count_words m)
unfolding count_words
says-count m w = says-most count_digits (show-short count_digits m) (says-words w)

pub says-number : (v : ℤ) {x y : List ℕ} {at r : ℕ} → Wrote x y at r (show_number v)
    → Says value_most x y at r (show_number v)
says-number v w = says-most value_most (number_short digits_max v) (says-words w)

-- the same words, and a looser bound
pub says_as : {m most : ℕ} {x y : List ℕ} {at r : ℕ} {bs words : List ℕ} → Says m x y at r bs → bs ≡ words → m ≤ most
    → Says most x y at r words
says_as {m} {most} p e h = rw e at (says-most most h p)
