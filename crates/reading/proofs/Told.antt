-- What a line tells where it is no fault.
use Prim.Native.Nat.{ℕ}
use native.Mathlib.Omega.{arith}
use mathlib.Core.Path.{◌≡◌, refl, sym}
use mathlib.Core.Bool.{Bool, true, false, not}
use Rattle.reading.specs.Results.{after, passing, refuse, Told}
use Rattle.std.specs.Prelude.{Ok, Err, Result}

-- a fault is no value
pub fault-got : {A F B : Type 0} {f : F} {x : B} → ◌≡◌ {A = Result B F} (Err f) (Ok x) → A
fault-got e = let z : ◌≡◌ {A = ℕ} 0 1 = cc in absurd (omega arith)

-- a test that is passed
pub not-false : (t : Bool) → not t ≡ false → t ≡ true
not-false true e = refl
not-false false e = sym e

module _ {F A : Type 0} {P : A → Type 0} where
  pub told-got : (x : A) → P x → Told {F = F} P (Ok x)
  told-got x p = record { told = λ y e. let same : x ≡ y = cc in rw (← same) p }

  pub told-fault : (f : F) → Told P (Err f)
  told-fault f = record { told = λ y e. fault-got e }

  pub told-unless : (t : Bool) (f : F) (r : Result A F) → (t ≡ false → Told P r) → Told P (refuse t f r)
  told-unless true f r h = told-fault f
  told-unless false f r h = h refl

module _ {F A : Type 0} {P : A → Type 0} where
  pub told-map : {Q : A → Type 0} (r : Result A F) → Told P r → ((x : A) → P x → Q x) → Told Q r
  told-map r p on = record { told = λ x e. on x (p.told x e) }

  pub told-after : {B : Type 0} {Q : B → Type 0} (r : Result A F) (h : A → B) → Told P r → ((x : A) → P x → Q (h x))
      → Told Q (after r h)
  unfolding after
  told-after (Ok x) h p on = told-got (h x) (on x (p.told x refl))
  told-after (Err f) h p on = told-fault f

  pub told-passing : (r : Result A F) (check : A → Result (Unit {0}) F) → Told P r
      → Told (λ x. P x × (check x ≡ Ok tt)) (passing r check)
  unfolding passing after
  told-passing (Ok x) check p = go (check x) refl
    where
      go : (c : Result (Unit {0}) F) → check x ≡ c → Told (λ y. P y × (check y ≡ Ok tt)) (after c (λ u. x))
      go (Ok u) e = told-got x (p.told x refl, e)
      go (Err f) e = told-fault f
  told-passing (Err f) check p = told-fault f

pub after-after : {F A B C : Type 0} (r : Result A F) (f : A → B) (h : B → C)
    → after (after r f) h ≡ after r (λ x. h (f x))
unfolding after
after-after (Ok x) f h = refl
after-after (Err e) f h = refl
