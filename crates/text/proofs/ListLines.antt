-- A list of numbers stands after its key.
use mathlib.Core.Path.{◌≡◌, refl, sym, ap, ◌∙◌}
use mathlib.Core.List.{List, [], ◌++◌}
use mathlib.Core.Bool.{true, false, false≢true}
use Prim.Native.Nat.{ℕ}
use Rattle.digits.specs.Number.{read_number}
use Rattle.text.specs.Cut.{feeds}
use Rattle.text.specs.Keys.{body_of}
use Rattle.text.specs.Lists.{no_numbers, add_read, add_field, last_field, read_list}
use Rattle.text.proofs.Keys.{body-was}

pub no-list : (read_list []).ok ≡ false
unfolding read_list last_field feeds add_field add_read read_number no_numbers
no-list = refl

pub list-line : (key l : List ℕ) → (read_list (body_of key l)).ok ≡ true → key ++ body_of key l ≡ l
list-line key l e =
    body-was key l (λ n. absurd (false≢true (sym no-list ∙ ap (λ (b : List ℕ). (read_list b).ok) (sym n) ∙ e)))
