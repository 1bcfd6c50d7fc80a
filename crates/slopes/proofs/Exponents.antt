-- The exponents of a lowered term, case by case.
use mathlib.Core.Path.{◌≡◌, refl}
use Prim.Native.Nat.{ℕ, ◌-◌}
use mathlib.Core.Bool.{Bool, true, false, cond}
use lib.Dec.{eqb}
use borrow.Author.Tests.{eq-eqb, ne_eqb}
use Rattle.slopes.specs.Terms.{lowered}

pub lowered-same : (j : ℕ) (e : ℕ → ℕ) → lowered j e j ≡ e j - 1
unfolding lowered
lowered-same j e = rw (eq-eqb j j refl)

pub lowered-other : (j : ℕ) (e : ℕ → ℕ) (k : ℕ) → (k ≡ j → ⊥) → lowered j e k ≡ e k
unfolding lowered
lowered-other j e k h = rw (ne_eqb k j h)

-- unknown k's alone
pub lowered-at : (j : ℕ) (e : ℕ → ℕ) (k : ℕ) → lowered j (λ _. e k) k ≡ lowered j e k
unfolding lowered
lowered-at j e k = refl

-- an unknown that stands nowhere is not lowered
pub lowered_none : (j : ℕ) (e : ℕ → ℕ) (k : ℕ) → e k ≡ 0 → lowered j e k ≡ 0
unfolding lowered
lowered_none j e k z = go (eqb k j)
  where
    go : (b : Bool) → cond b (e k - 1) (e k) ≡ 0
    go true = rw z
    go false = z
