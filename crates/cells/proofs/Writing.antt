-- A text that a writer puts into a part of some bytes, and its length before it.
use Prim.Native.Nat.{ℕ, suc, ◌+◌, ◌≤◌}
use native.Mathlib.Omega.{arith}
use mathlib.Core.Path.{◌≡◌, refl, sym, ap, ◌∙◌}
use mathlib.Core.List.{List, [], ◌∷◌, ◌++◌, append_assoc}
use lib.ListN.{length, take, drop, set, take-append-drop, length-drop}
use lib.Seq.{sets, sets-eq, drop-append-le, drop-drop, length-take-le}
use Rattle.lists.proofs.Sets.{sets-append}
use Rattle.writing.proofs.Wrote.{sets-before}
use Rattle.cells.specs.Cells.{part, number_bytes, cell}

-- the text stands at the start of a part of n bytes, and the rest of the part stays
pub put-in-part : (bs : List ℕ) (a n : ℕ) (t : List ℕ) → length t ≤ n → a + n ≤ length bs
    → take a bs ++ ((t ++ drop (length t) (part a n bs)) ++ drop n (drop a bs)) ≡ sets bs a t
put-in-part bs a n t few room =
    ap (λ (xs : List ℕ). take a bs ++ xs)
    (append_assoc t (drop (length t) (part a n bs)) (drop n (drop a bs)) ∙ ap (λ (xs : List ℕ). t ++ xs) rest)
    ∙ sym (sets-eq t bs a (omega arith) ∙ append_assoc (take a bs) t (drop (a + length t) bs))
  where
    long : length (part a n bs) ≡ n
    long = length-take-le n (drop a bs) (omega (arith, length-drop a bs))

    rest : drop (length t) (part a n bs) ++ drop n (drop a bs) ≡ drop (a + length t) bs
    rest =
        sym (drop-append-le (length t) (part a n bs) (drop n (drop a bs)) (omega (arith, long)))
        ∙ ap (drop (length t)) (take-append-drop n (drop a bs))
        ∙ drop-drop (length t) a bs

-- what is set before it may be set first
pub sets-swap : (bs : List ℕ) (i : ℕ) (t : List ℕ) (p : ℕ) (xs : List ℕ) → p + length xs ≤ i
    → sets (sets bs i t) p xs ≡ sets (sets bs p xs) i t
sets-swap bs i t p [] h = refl
sets-swap bs i t p (x ∷ xs) h =
    ap (λ (ys : List ℕ). sets ys (suc p) xs) (sets-before bs i p t x (omega arith))
    ∙ sets-swap (set bs p x) i t (suc p) xs (omega arith)

-- its length behind it
pub length-put : (bs : List ℕ) (a : ℕ) (t : List ℕ)
    → sets (sets bs (a + 4) t) a (number_bytes (length t)) ≡ sets bs a (cell t)
unfolding number_bytes
length-put bs a t =
    sets-swap bs (a + 4) t a (number_bytes (length t)) (omega arith)
    ∙ sym (sets-append bs a (number_bytes (length t)) t)
