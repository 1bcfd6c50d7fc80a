-- A line begins with its key.
use Rattle.std.specs.Prelude.{ℕ, List, [], ◌∷◌, Bool, true, false, cond, ◌&&◌, length, drop, eqb}

unfoldable pub starts_with : List ℕ → List ℕ → Bool
starts_with [] l = true
starts_with (k ∷ ks) [] = false
starts_with (k ∷ ks) (b ∷ bs) = eqb b k && starts_with ks bs

unfoldable pub same_bytes : List ℕ → List ℕ → Bool
same_bytes w l = eqb (length l) (length w) && starts_with w l

-- what stands after the key; nothing where the line has another key (and no number, list of numbers or word is nothing)
unfoldable pub body_of : List ℕ → List ℕ → List ℕ
body_of key l = cond (starts_with key l) (drop (length key) l) []
