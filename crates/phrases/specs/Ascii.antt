-- Words as bytes.
use Rattle.std.specs.Prelude.{ℕ, zero, suc, ◌+◌, List, [], ◌∷◌}
use Prim.Native.Char.{code}
use Prim.Native.String.{String, len, char_at}

-- k bytes from place i on
abbrev ascii_from : ℕ → String → ℕ → List ℕ
ascii_from zero s i = []
ascii_from (suc k) s i = code (char_at s i) ∷ ascii_from k s (i + 1)

abbrev pub ascii : String → List ℕ
ascii s = ascii_from (len s) s 0
