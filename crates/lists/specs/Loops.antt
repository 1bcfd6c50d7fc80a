-- What a loop over the places 0 to n - 1 means: it fills a list, carries a value along, or asks one question of every
-- place.
use Rattle.std.specs.Prelude.{Bool, true, false, List, [], ◌∷◌, ℕ, zero, suc, replicate}

-- a list of m places: f at each place below n, and d at the others ("places past n play no part")
unfoldable pub tab {ℓ} : {A : Type ℓ} → ℕ → ℕ → A → (ℕ → A) → List A
tab zero n d f = []
tab (suc m) zero d f = d ∷ replicate m d
tab (suc m) (suc n) d f = f zero ∷ tab m n d (λ i. f (suc i))

-- a, changed by f at place 0, then at place 1, and so on below n
unfoldable pub carry {ℓ} : {A : Type ℓ} → ℕ → A → (ℕ → A → A) → A
carry zero a f = a
carry (suc n) a f = f n (carry n a f)

abbrev pub both : Bool → Bool → Bool
both true b = b
both false b = false

-- is p true at every place below n?
unfoldable pub all_b : ℕ → (ℕ → Bool) → Bool
all_b zero p = true
all_b (suc n) p = both (all_b n p) (p n)
