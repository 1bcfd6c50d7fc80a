-- std's test of two slices is the one of the contracts.
use Prim.Native.Nat.{ℕ, suc}
use native.Mathlib.Omega.{arith}
use mathlib.Core.Path.{◌≡◌, refl, ap, ◌∙◌}
use mathlib.Core.List.{List, [], ◌∷◌}
use mathlib.Core.Bool.{Bool, true, false, ◌&&◌}
use lib.ListN.{length}
use lib.Dec.{eqb}
use borrow.Author.Tests.{eq-eqb, ne_eqb}
use Rattle.std.specs.Cmp.Lexicographic.{pointwise}
use Rattle.digits.proofs.Cases.{same_or}
use Rattle.text.specs.Keys.{starts_with, same_bytes}

swap : (a b c : Bool) → a && (b && c) ≡ b && (a && c)
swap true b c = refl
swap false true c = refl
swap false false c = refl

longer : (a b : ℕ) → eqb a b ≡ eqb (suc a) (suc b)
longer a b =
    same_or a b
    (λ e. rw (eq-eqb a b e, eq-eqb (suc a) (suc b) (ap suc e)))
    (λ n. rw (ne_eqb a b n, ne_eqb (suc a) (suc b) (λ e. n (omega arith))))

pub same_so : (l w : List ℕ) → pointwise eqb l w ≡ same_bytes w l
unfolding same_bytes starts_with
same_so [] [] = refl
same_so [] (c ∷ w) = rw (ne_eqb 0 (suc (length w)) (omega arith))
same_so (b ∷ l) [] = rw (ne_eqb (suc (length l)) 0 (omega arith))
same_so (b ∷ l) (c ∷ w) =
    ap (λ (x : Bool). eqb b c && x) (same_so l w)
    ∙ swap (eqb b c) (eqb (length l) (length w)) (starts_with w l)
    ∙ ap (λ (x : Bool). x && (eqb b c && starts_with w l)) (longer (length l) (length w))
