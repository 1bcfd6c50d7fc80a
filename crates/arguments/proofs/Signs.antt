-- A number behind a minus, by what it is without.
use mathlib.Core.Path.{◌≡◌, refl, ap, ◌∙◌}
use Prim.Native.Nat.{ℕ}
use lib.IntN.{ℤ, pos, neg_ℤ}
use borrow.Author.Tests.{ne_eqb}
use Rattle.std.specs.Prelude.{Some, None, Option}
use Rattle.digits.specs.Number.{with_minus, without_minus}

pub minus-none : (m : Option ℕ) → None ≡ without_minus m → None ≡ with_minus m
unfolding with_minus without_minus
minus-none None e = refl
minus-none (Some m) e = absurd (cc)

pub minus-zero : (m : Option ℕ) → Some (pos 0) ≡ without_minus m → None ≡ with_minus m
unfolding with_minus without_minus
minus-zero None e = absurd (cc)
minus-zero (Some m) e = let z : m ≡ 0 = cc in rw z

pub minus-some : (m : Option ℕ) (v : ℤ) → (v ≡ pos 0 → ⊥) → Some v ≡ without_minus m → Some (neg_ℤ v) ≡ with_minus m
unfolding with_minus without_minus
minus-some None v n e = absurd (cc)
minus-some (Some m) v n e =
    let z : v ≡ pos m = cc in
    let p : m ≡ 0 → ⊥ = λ q. n (z ∙ ap pos q) in
    rw (z, ne_eqb m 0 p)

pub not-below : (m : Option ℕ) (v : ℤ) → Some v ≡ without_minus m → (k : ℕ) × (v ≡ pos k)
unfolding without_minus
not-below None v e = absurd (cc)
not-below (Some m) v e = (m, cc)
