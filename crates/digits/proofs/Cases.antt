-- A claim by the outcome of a test of two numbers.
use Prim.Native.Nat.{ℕ, ◌≤◌, ◌<◌}
use mathlib.Core.Path.{◌≡◌, refl}
use mathlib.Core.Bool.{Bool, true, false}
use lib.Dec.{ltb, eqb}
use borrow.Author.Tests.{ltb-true, ltb-false, eqb-true, eqb-false}

pub either : {A : Type 0} (a b : ℕ) → (a < b → A) → (b ≤ a → A) → A
either {A} a b f g = go (ltb a b) refl
  where
    go : (t : Bool) → ltb a b ≡ t → A
    go true e = f (ltb-true a b e)
    go false e = g (ltb-false a b e)

pub same_or : {A : Type 0} (a b : ℕ) → (a ≡ b → A) → ((a ≡ b → ⊥) → A) → A
same_or {A} a b f g = go (eqb a b) refl
  where
    go : (t : Bool) → eqb a b ≡ t → A
    go true e = f (eqb-true a b e)
    go false e = g (eqb-false a b e)
