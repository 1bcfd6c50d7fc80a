-- Laws of keys, words and bodies.
use Prim.Native.Nat.{ℕ, ◌≤◌}
use native.Mathlib.Omega.{arith}
use mathlib.Core.Path.{◌≡◌, refl, ap, ap₂, sym, ◌∙◌}
use mathlib.Core.List.{List, [], ◌∷◌, ◌++◌, append-nil}
use mathlib.Core.Bool.{Bool, true, false, cond, ◌&&◌, false≢true}
use lib.ListN.{length, drop, drop_of_length-le}
use lib.Seq.{drop-append_seam}
use lib.Dec.{eqb}
use borrow.Author.Tests.{eq-eqb, eqb-true}
use Rattle.text.specs.Keys.{starts_with, same_bytes, body_of}

pub both : (a b : Bool) → a && b ≡ true → (a ≡ true) × (b ≡ true)
both true b e = (refl, e)
both false true e = absurd (false≢true e)
both false false e = absurd (false≢true e)

pub starts-length : (k l : List ℕ) → starts_with k l ≡ true → length k ≤ length l
unfolding starts_with
starts-length [] l e = omega arith
starts-length (k ∷ ks) [] e = absurd (false≢true e)
starts-length (k ∷ ks) (b ∷ bs) e = omega (arith, starts-length ks bs (both (eqb b k) (starts_with ks bs) e).1)

starts-was : (k l : List ℕ) → starts_with k l ≡ true → k ++ drop (length k) l ≡ l
unfolding starts_with
starts-was [] l e = refl
starts-was (k ∷ ks) [] e = absurd (false≢true e)
starts-was (k ∷ ks) (b ∷ bs) e =
    let p = both (eqb b k) (starts_with ks bs) e in
    ap₂ (λ (c : ℕ) (l : List ℕ). c ∷ l) (sym (eqb-true b k p.0)) (starts-was ks bs p.1)

starts-own : (k b : List ℕ) → starts_with k (k ++ b) ≡ true
unfolding starts_with
starts-own [] b = refl
starts-own (k ∷ ks) b = rw (eq-eqb k k refl) (starts-own ks b)

pub same-was : (w l : List ℕ) → same_bytes w l ≡ true → w ≡ l
unfolding same_bytes
same-was w l e =
    let p = both (eqb (length l) (length w)) (starts_with w l) e in
    let n : length l ≤ length w = omega (arith, eqb-true (length l) (length w) p.0) in
    sym (append-nil w) ∙ ap (λ (x : List ℕ). w ++ x) (sym (drop_of_length-le l n)) ∙ starts-was w l p.1

pub body_own : (key b : List ℕ) → body_of key (key ++ b) ≡ b
unfolding body_of
body_own key b = rw (starts-own key b) (drop-append_seam key b)

-- a body that is not empty stands after its key
pub body-was : (key l : List ℕ) → (body_of key l ≡ [] → ⊥) → key ++ body_of key l ≡ l
unfolding body_of
body-was key l n = go (starts_with key l) refl
  where
    go : (t : Bool) → starts_with key l ≡ t → key ++ cond (starts_with key l) (drop (length key) l) [] ≡ l
    go true e = rw e (starts-was key l e)
    go false e = absurd (n (rw e))
