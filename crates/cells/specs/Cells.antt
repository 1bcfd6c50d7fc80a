-- Numbers and texts in lent bytes: "Numbers of four bytes have the least byte first" (docs/ROOMS.md).
use Rattle.std.specs.Prelude.{ℕ, ◌+◌, ◌*◌, ◌/◌, ◌%◌, ◌^◌, List, [], ◌∷◌, ◌++◌, length, take, drop, get_or, replicate}

-- n bytes from a on
abbrev pub part : ℕ → ℕ → List ℕ → List ℕ
part a n bs = take n (drop a bs)

-- the number in the four bytes from a on
unfoldable pub number_at : List ℕ → ℕ → ℕ
number_at bs a = get_or bs a 0 + 256 * (get_or bs (a + 1) 0 + 256 * (get_or bs (a + 2) 0 + 256 * get_or bs (a + 3) 0))

-- no number of four bytes reaches it
abbrev pub number_end : ℕ
number_end = 256 ^ 4

unfoldable pub number_bytes : ℕ → List ℕ
number_bytes v = v % 256 ∷ v / 256 % 256 ∷ v / 256 / 256 % 256 ∷ v / 256 / 256 / 256 % 256 ∷ []

-- a text with its length before it
abbrev pub cell : List ℕ → List ℕ
cell text = number_bytes (length text) ++ text

-- the text whose length stands at a
abbrev pub text_at : List ℕ → ℕ → List ℕ
text_at bs a = part (a + 4) (number_at bs a) bs

unfoldable pub zeros : ℕ → List ℕ
zeros n = replicate n 0
