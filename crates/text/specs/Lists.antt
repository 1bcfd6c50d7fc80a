-- "Lists are joined by commas."
use Rattle.std.specs.Prelude.{ℕ, ◌+◌, ◌*◌, ◌^◌, ◌<◌, List, [], ◌∷◌, ◌++◌, map, true, false, Bool, set, replicate, ℤ}
use Rattle.std.specs.Prelude.{pos, nat_abs, Option, Some, None}
use Rattle.sizes.specs.Sizes.{n_max}
use Rattle.digits.specs.Bytes.{comma}
use Rattle.digits.specs.Number.{digits_max, read_number}
use Rattle.digits.specs.Show.{show_signed}
use Rattle.text.specs.Cut.{Cut, fresh, feeds}

-- as many as `inv` has
abbrev pub places_max : ℕ
places_max = n_max * n_max

-- the numbers of a list: whether each is well spelled, how many there are, and the first of them
pub record Numbers : Type 0 where
  pub ok : Bool
  pub count : ℕ
  pub vals : List ℤ

-- no number yet
unfoldable pub no_numbers : Numbers
no_numbers = record { ok = true; count = 0; vals = replicate places_max (pos 0) }

-- one more number: it stands at its place if there is one
unfoldable pub put_number : Numbers → ℤ → Numbers
put_number a v = record { ok = a.ok; count = a.count + 1; vals = set a.vals a.count v }

unfoldable pub add_read : Numbers → Option ℤ → Numbers
add_read a (Some v) = put_number a v
add_read a None = record { ok = false; count = a.count; vals = a.vals }

-- one more field
unfoldable pub add_field : Numbers → List ℕ → Numbers
add_field a f = add_read a (read_number f)

-- the last field has no comma after it
unfoldable pub last_field : Cut Numbers → Numbers
last_field k = add_field k.st k.held

unfoldable pub read_list : List ℕ → Numbers
read_list s = last_field (feeds add_field comma (fresh no_numbers) s)

-- ---- writing

-- each item after a comma
unfoldable pub after_commas : List (List ℕ) → List ℕ
after_commas [] = []
after_commas (x ∷ xs) = comma ∷ (x ++ after_commas xs)

unfoldable pub joined : List (List ℕ) → List ℕ
joined [] = []
joined (x ∷ xs) = x ++ after_commas xs

-- numbers of at most k digits each, joined
unfoldable pub show_all : ℕ → List ℤ → List ℕ
show_all k vs = joined (map (show_signed k) vs)

-- each number has at most k digits
unfoldable pub Below : ℕ → List ℤ → Type 0
Below k [] = Unit {0}
Below k (v ∷ vs) = (nat_abs v < 10 ^ k) × Below k vs

-- "1 to 9 digits": the lists of a text that is read
abbrev pub show_list : List ℤ → List ℕ
show_list = show_all digits_max

abbrev pub Small : List ℤ → Type 0
Small = Below digits_max
