-- What a closure that makes the places of a list is: it may be called at each place below n, and what it makes there is
-- what f says.
use Rattle.std.specs.Prelude.{◌≡◌, ℕ, ◌<◌}

abbrev pub MayMake : ℕ → (ℕ → Type 0) → Type 0
MayMake n pre = (k : ℕ) → k < n → pre k

abbrev pub Makes : {A : Type 0} → ℕ → (ℕ → A → Type 0) → (ℕ → A) → Type 0
Makes {A} n post f = (k : ℕ) (r : A) → k < n → post k r → r ≡ f k
