-- The first place of some that has a property, place by place.
use Prim.Native.Nat.{ℕ, suc, ◌+◌, ◌-◌, ◌≤◌, ◌<◌}
use native.Mathlib.Omega.{arith}
use mathlib.Core.Path.{◌≡◌, refl, ap, ◌∙◌}
use mathlib.Core.Bool.{Bool, true, false, cond}
use Rattle.room_form.specs.Calls.{first_from}

module _ (f : ℕ → Bool) (n k : ℕ) where
  -- where k is one of the places
  one_more : k < n → first_from (n - k) f k ≡ cond (f k) k (first_from (n - (k + 1)) f (k + 1))
  unfolding first_from
  one_more l =
      let left : n - k ≡ suc (n - (k + 1)) = omega arith in
      let next : suc k ≡ k + 1 = omega arith in
      ap (λ (m : ℕ). first_from m f k) left ∙ ap (λ (p : ℕ). cond (f k) k (first_from (n - (k + 1)) f p)) next

  pub first-here : k < n → f k ≡ true → first_from (n - k) f k ≡ k
  first-here l e = one_more l ∙ rw e refl

  pub first-later : k < n → f k ≡ false → first_from (n - k) f k ≡ first_from (n - (k + 1)) f (k + 1)
  first-later l e = one_more l ∙ rw e refl

  pub first-none : n ≤ k → first_from (n - k) f k ≡ k
  unfolding first_from
  first-none h = let none : n - k ≡ 0 = omega arith in ap (λ (m : ℕ). first_from m f k) none
