-- How long a line is at most, and lines one after the other.
use Prim.Native.Nat.{ℕ, ◌+◌, ◌*◌, ◌≤◌}
use native.Mathlib.Omega.{arith}
use mathlib.Core.Path.{◌≡◌, refl, sym, ap, ◌∙◌}
use mathlib.Core.List.{List, [], ◌∷◌, ◌++◌, append_assoc}
use lib.ListN.{length, length-append}
use lib.IntN.{ℤ}
use Rattle.digits.specs.Bytes.{line_feed}
use Rattle.digits.specs.Number.{digits_max}
use Rattle.digits.specs.Show.{show_magnitude}
use Rattle.digits.proofs.Show.{show-short}
use Rattle.text.specs.Cut.{end_each}
use Rattle.text.specs.Lists.{show_all}
use Rattle.writing.specs.Wrote.{line}
use Rattle.writing.proofs.Lists.{list-short}

pub line-long : (key body : List ℕ) → length (line (key ++ body)) ≡ length key + length body + 1
unfolding line
line-long key body = rw (length-append (key ++ body) (line_feed ∷ []), length-append key body)

pub count-line-short : (key : List ℕ) (m : ℕ)
    → length (line (key ++ show_magnitude digits_max m)) ≤ length key + digits_max + 1
count-line-short key m = rw (line-long key (show_magnitude digits_max m)) (omega (arith, show-short digits_max m))

pub list-line-short : (k : ℕ) (key : List ℕ) (xs : List ℤ)
    → length (line (key ++ show_all k xs)) ≤ length key + (k + 2) * length xs + 1
list-line-short k key xs = rw (line-long key (show_all k xs)) (omega (arith, list-short k xs))

pub end-length : (l : List ℕ) (ls : List (List ℕ))
    → length (end_each line_feed (l ∷ ls)) ≡ length (line l) + length (end_each line_feed ls)
unfolding end_each line
end-length l ls =
    sym (ap length (append_assoc l (line_feed ∷ []) (end_each line_feed ls)))
    ∙ length-append (l ++ (line_feed ∷ [])) (end_each line_feed ls)

pub end-append : (a b : List (List ℕ)) → end_each line_feed (a ++ b) ≡ end_each line_feed a ++ end_each line_feed b
unfolding end_each
end-append [] b = refl
end-append (l ∷ a) b =
    ap (λ (t : List ℕ). l ++ (line_feed ∷ t)) (end-append a b)
    ∙ sym (append_assoc l (line_feed ∷ end_each line_feed a) (end_each line_feed b))

pub end_none : length (end_each line_feed []) ≡ 0
unfolding end_each
end_none = refl
