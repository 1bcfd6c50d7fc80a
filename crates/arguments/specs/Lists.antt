-- A list: 1 to `n_max` long numbers joined by commas; a place that it does not name is 0.
use Rattle.std.specs.Prelude.{ℕ, zero, suc, ◌+◌, List, cond, length, set, replicate, ltb, ℤ, pos, Some, None, Option}
use Rattle.sizes.specs.Sizes.{n_max}
use Rattle.digits.specs.Bytes.{comma}
use Rattle.text.specs.Cut.{place_of}
use Rattle.arguments.specs.Longs.{long_of}
use Rattle.arguments.specs.Words.{before, behind}

-- what is made of a number, if it is one
unfoldable pub if_number : Option ℤ → (ℤ → Option (List ℤ)) → Option (List ℤ)
if_number (Some v) f = f v
if_number None f = None

-- the fields of s stand at the places from i on, of which k are left
unfoldable pub places_from : ℕ → ℕ → List ℤ → List ℕ → Option (List ℤ)
places_from zero i at s = None
places_from (suc k) i at s =
    if_number (long_of (before comma s))
    (λ v.
    cond (ltb (place_of comma s) (length s)) (places_from k (i + 1) (set at i v) (behind comma s))
    (Some (set at i v)))

unfoldable pub places_of : List ℕ → Option (List ℤ)
places_of s = places_from n_max 0 (replicate n_max (pos 0)) s
