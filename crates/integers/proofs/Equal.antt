-- Laws of the test of equality, and what the code's `==` compares.
use mathlib.Core.Path.{◌≡◌, refl, sym, ap, ◌∙◌}
use mathlib.Core.Bool.{Bool, true, false}
use borrow.Author.Tests.{eqb-true, eq-eqb, eqb-false}
use lib.Dec.{eqb}
use lib.IntN.{ℤ, pos, negsuc}
use mir.Syntax.{w64}
use mir.Val.{SFits, of_z}
use Rattle.integers.specs.Equal.{eq_ℤ}
use Rattle.integers.proofs.Machine.{eq-bits}

pub eq_ℤ-refl : (a : ℤ) → eq_ℤ a a ≡ true
eq_ℤ-refl (pos a) = eq-eqb a a refl
eq_ℤ-refl (negsuc a) = eq-eqb a a refl

pub eq_ℤ-true : (a b : ℤ) → eq_ℤ a b ≡ true → a ≡ b
eq_ℤ-true (pos a) (pos b) e = ap pos (eqb-true a b e)
eq_ℤ-true (pos a) (negsuc b) e = cc
eq_ℤ-true (negsuc a) (pos b) e = cc
eq_ℤ-true (negsuc a) (negsuc b) e = ap negsuc (eqb-true a b e)

-- the code's `==` compares the bits
pub bits-eq : {a b : ℤ} → SFits w64 a → SFits w64 b → eqb (of_z w64 a) (of_z w64 b) ≡ eq_ℤ a b
bits-eq {a} {b} f g = go (eqb (of_z w64 a) (of_z w64 b)) (eq_ℤ a b) refl refl
  where
    go : (t u : Bool) → eqb (of_z w64 a) (of_z w64 b) ≡ t → eq_ℤ a b ≡ u → t ≡ u
    go true true e h = refl
    go false false e h = refl
    go true false e h =
        let q : a ≡ b = eq-bits f g (eqb-true (of_z w64 a) (of_z w64 b) e) in
        let z : eq_ℤ b b ≡ false = rw q at h in
        sym (eq_ℤ-refl b) ∙ z
    go false true e h = absurd (eqb-false (of_z w64 a) (of_z w64 b) e (ap (of_z w64) (eq_ℤ-true a b h)))
